-- the fields of a row from what the row says, and its bytes
use Rattle.std.specs.Prelude.{ℕ, ◌+◌, ◌-◌, ◌/◌, ◌%◌, ◌^◌, min, Bool, cond, List, [], ◌∷◌, Some, None, Option}
use Rattle.image.specs.declared.fields.Fields.{Fields}
use Rattle.image.specs.declared.rows.Block.{Block}
use Rattle.image.specs.declared.rows.ExprKind.{ExprKind}
use Rattle.image.specs.declared.rows.ExprKind.TheVariants.{Host, Unit as UnitExpr, False, True}
use Rattle.image.specs.declared.rows.Name.{Name}
use Rattle.image.specs.declared.rows.Position.{Position}
use Rattle.image.specs.declared.rows.Stmt.{Stmt}
use Rattle.image.specs.declared.rows.Stmt.TheVariants.{Noop, Expr, Block as Body, Assignment, Var, If, While, Do, For, BreakLoop, TryCatch, Return, Import}
use Rattle.sheet.specs.declared.sheet.ExprEntry.{ExprEntry}
use Rattle.sheet.specs.declared.sheet.StmtEntry.{StmtEntry}
use Rattle.sheet.specs.declared.sheet.Unread.{Unread}

-- 65,535 stands for no expression, and for an empty block
abbrev pub numbered : Option ℕ → ℕ
numbered None = 65535
numbered (Some n) = n

-- 0 stands for no operator, and for no index
abbrev pub or_zero : Option ℕ → ℕ
or_zero None = 0
or_zero (Some n) = n

-- length 0 stands for no name, and its offset is free then
abbrev pub name_fields : Option Name → ℕ → Name
name_fields None free = record { offset = free; length = 0 }
name_fields (Some n) free = n

-- flags with one more, by its weight, if it is set; a sum that 8 bits do not hold is their largest number
abbrev pub marked : ℕ → ℕ → Bool → ℕ
marked flags weight set = cond set (min (flags + weight) (2 ^ 8 - 1)) flags

-- a row field by field
abbrev pub filled : ℕ → ℕ → Position → ℕ → ℕ → ℕ → Name → ℕ → ℕ → Fields
filled kind flags at e p q name r t = record {
  kind = kind;
  flags = flags;
  line = at.line;
  column = at.column;
  e = e;
  p = p;
  q = q;
  name_offset = name.offset;
  name_length = name.length;
  r = r;
  t = t;
}

-- what stands in the place of a name that is not read
abbrev pub free_name : Unread → Name
free_name u = record { offset = u.name_offset; length = u.name_length }

-- each kind has its number and the fields that it reads, and the others are as they are unread
abbrev pub fields_for : Stmt → Position → Unread → Fields
fields_for Noop at u = filled 0 u.flags at u.e u.p u.q (free_name u) u.r u.t
fields_for (Expr e) at u = filled 1 u.flags at e u.p u.q (free_name u) u.r u.t
fields_for (Body b) at u = filled 2 u.flags at u.e (numbered b) u.q (free_name u) u.r u.t
fields_for (Assignment n e o i) at u = filled 3 u.flags at e u.p (or_zero o) n (or_zero i) u.t
fields_for (Var n e i c) at u = filled 4 (marked u.flags 1 c) at e u.p u.q n (or_zero i) u.t
fields_for (If e b c) at u = filled 5 u.flags at e (numbered b) (numbered c) (free_name u) u.r u.t
fields_for (While e b) at u = filled 7 u.flags at e (numbered b) u.q (free_name u) u.r u.t
fields_for (Do e b n) at u = filled 8 (marked u.flags 4 n) at e (numbered b) u.q (free_name u) u.r u.t
fields_for (For n c e b) at u = filled 9 u.flags at e (numbered b) u.q n (name_fields c u.r).offset (name_fields c u.r).length
fields_for (BreakLoop e b) at u = filled 10 (marked u.flags 8 b) at (numbered e) u.p u.q (free_name u) u.r u.t
fields_for (TryCatch b c n) at u = filled 11 u.flags at u.e (numbered b) (numbered c) (name_fields n u.name_offset) u.r u.t
fields_for (Return e t) at u = filled 12 (marked u.flags 8 t) at (numbered e) u.p u.q (free_name u) u.r u.t
fields_for (Import e n) at u = filled 13 u.flags at e u.p u.q (name_fields n u.name_offset) u.r u.t

abbrev pub fields_of : StmtEntry → Fields
fields_of x = fields_for x.row.stmt x.row.at x.unread

-- the number of an expression's kind
abbrev pub kind_number : ExprKind → ℕ
kind_number (Host code) = 0
kind_number UnitExpr = 1
kind_number False = 2
kind_number True = 3

-- the host's code; a constant has none, and what stands there is free
abbrev pub code_or : ExprKind → ℕ → ℕ
code_or (Host code) free = code
code_or UnitExpr free = free
code_or False free = free
code_or True free = free

abbrev pub low : ℕ → ℕ
low n = n % 256

abbrev pub high : ℕ → ℕ
high n = n / 256

-- fields of 16 bits, little-endian
abbrev pub words : List ℕ → List ℕ
words [] = []
words (n ∷ ns) = low n ∷ high n ∷ words ns

abbrev pub block_bytes : Block → List ℕ
block_bytes b = words (b.first ∷ b.count ∷ [])

abbrev pub field_bytes : Fields → List ℕ
field_bytes x =
    x.kind ∷ x.flags
    ∷ words (x.line ∷ x.column ∷ x.e ∷ x.p ∷ x.q ∷ x.name_offset ∷ x.name_length ∷ x.r ∷ x.t ∷ [])

abbrev pub stmt_bytes : StmtEntry → List ℕ
stmt_bytes x = field_bytes (fields_of x)

abbrev pub expr_bytes : ExprEntry → List ℕ
expr_bytes x =
    kind_number x.row.kind ∷ x.unread
    ∷ words (x.row.at.line ∷ x.row.at.column ∷ code_or x.row.kind x.code ∷ [])

-- the mark RHS, version 1, the zero byte and the counts
abbrev pub header_bytes : ℕ → ℕ → ℕ → ℕ → List ℕ
header_bytes b s e n = 82 ∷ 72 ∷ 83 ∷ 1 ∷ 0 ∷ 0 ∷ words (b ∷ s ∷ e ∷ n ∷ [])
