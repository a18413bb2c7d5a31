-- the rows of the tables: their fields, and what each kind reads of them
use Rattle.std.specs.Prelude.{ℕ, ◌+◌, ◌*◌, ◌/◌, ◌%◌, Bool, cond, List, [], ◌∷◌, drop, Some, None, Option, ◌==◌, nat_le, nat_lt, slice_index}
use Rattle.image.specs.declared.rows.Block.{Block}
use Rattle.image.specs.declared.rows.Expr.{Expr as ExprRow}
use Rattle.image.specs.declared.rows.ExprKind.{ExprKind}
use Rattle.image.specs.declared.rows.ExprKind.TheVariants.{Host, Unit as UnitExpr, False, True}
use Rattle.image.specs.declared.rows.Name.{Name}
use Rattle.image.specs.declared.rows.Parts.{Parts}
use Rattle.image.specs.declared.rows.Position.{Position}
use Rattle.image.specs.declared.rows.Stmt.{Stmt}
use Rattle.image.specs.declared.rows.Stmt.TheVariants.{Noop, Expr, Block as Body, Assignment, Var, If, While, Do, For, BreakLoop, TryCatch, Return, Import}
use Rattle.image.specs.declared.rows.StmtRow.{StmtRow}
use Rattle.image.specs.declared.fields.Fields.{Fields}
use Rattle.image.specs.Bytes.{word}
use Rattle.image.specs.Layouts.{layout_of}

-- a block row of 4 bytes
abbrev pub block_from : List ℕ → ℕ → Block
block_from s a = record { first = word s a; count = word s (a + 2) }

-- past the table, an empty block
unfoldable pub block : List ℕ → ℕ → Block
block s i = cond (nat_lt i (layout_of s).blocks) (block_from s ((layout_of s).blocks_at + 4 * i)) (record { first = 0; count = 0 })

-- 0 is the host's expression under its code, and 1 to 3 are constants; no other kind is known
abbrev pub expr_kind : ℕ → ℕ → Option ExprKind
expr_kind kind code =
    cond (kind == 0) (Some (Host code)) (cond (kind == 1) (Some UnitExpr) (cond (kind == 2) (Some False) (cond (kind == 3) (Some True) None)))

abbrev pub placed : Position → Option ExprKind → Option ExprRow
placed p None = None
placed p (Some k) = Some (record { at = p; kind = k })

-- an expression row of 8 bytes, of which the second is unread
abbrev pub expr_from : List ℕ → ℕ → Option ExprRow
expr_from s a = placed (record { line = word s (a + 2); column = word s (a + 4) }) (expr_kind (slice_index s a) (word s (a + 6)))

unfoldable pub expr_at : List ℕ → ℕ → Option ExprRow
expr_at s i = cond (nat_lt i (layout_of s).expressions) (expr_from s ((layout_of s).expressions_at + 8 * i)) None

-- a statement row of 20 bytes, field by field
abbrev pub fields_from : List ℕ → ℕ → Fields
fields_from s a = record {
  kind = slice_index s a;
  flags = slice_index s (a + 1);
  line = word s (a + 2);
  column = word s (a + 4);
  e = word s (a + 6);
  p = word s (a + 8);
  q = word s (a + 10);
  name_offset = word s (a + 12);
  name_length = word s (a + 14);
  r = word s (a + 16);
  t = word s (a + 18);
}

-- 65,535 stands for no expression, and for an empty block
abbrev pub reference : ℕ → Option ℕ
reference n = cond (n == 65535) None (Some n)

-- 0 stands for no operator, and for no index
abbrev pub nonzero : ℕ → Option ℕ
nonzero n = cond (n == 0) None (Some n)

-- a name of length 0 is none
abbrev pub name_of : ℕ → ℕ → Option Name
name_of offset length = cond (length == 0) None (Some (record { offset = offset; length = length }))

-- a flag by its weight: 1 constant, 4 negated, 8 break
abbrev pub flag : ℕ → ℕ → Bool
flag flags weight = (flags / weight) % 2 == 1

-- a part that the kind requires: where it is absent, so is the statement
abbrev pub required : {A : Type 0} → Option A → (A → Stmt) → Option Stmt
required None f = None
required (Some x) f = Some (f x)

-- a required name, then a required expression
abbrev pub required_both : Option Name → Option ℕ → (Name → ℕ → Stmt) → Option Stmt
required_both None e f = None
required_both (Some n) e f = required e (f n)

-- what a table has under a number
abbrev pub under : ℕ → List (ℕ × Option Stmt) → Option Stmt
under k [] = None
under k (row ∷ rest) = cond (k == row.0) row.1 (under k rest)

-- the statement of a known kind, its required parts present
abbrev pub stmt_of : Fields → Option Stmt
stmt_of x =
    let e = reference x.e in
    let p = reference x.p in
    let q = reference x.q in
    let name = name_of x.name_offset x.name_length in
    let index = nonzero x.r in
    under x.kind (
    (0, Some Noop)
    ∷ (1, required e (λ e. Expr e))
    ∷ (2, Some (Body p))
    ∷ (3, required_both name e (λ n e. Assignment n e (nonzero x.q) index))
    ∷ (4, required_both name e (λ n e. Var n e index (flag x.flags 1)))
    ∷ (5, required e (λ e. If e p q))
    ∷ (7, required e (λ e. While e p))
    ∷ (8, required e (λ e. Do e p (flag x.flags 4)))
    ∷ (9, required_both name e (λ n e. For n (name_of x.r x.t) e p))
    ∷ (10, Some (BreakLoop e (flag x.flags 8)))
    ∷ (11, Some (TryCatch p q name))
    ∷ (12, Some (Return e (flag x.flags 8)))
    ∷ (13, required e (λ e. Import e name))
    ∷ [])

abbrev pub row_of : Position → Option Stmt → Option StmtRow
row_of p None = None
row_of p (Some x) = Some (record { at = p; stmt = x })

-- the row that the fields make, if the flags are at most 15
abbrev pub stmt_from : Fields → Option StmtRow
stmt_from x = cond (nat_le x.flags 15) (row_of (record { line = x.line; column = x.column }) (stmt_of x)) None

unfoldable pub stmt_at : List ℕ → ℕ → Option StmtRow
stmt_at s i = cond (nat_lt i (layout_of s).statements) (stmt_from (fields_from s ((layout_of s).statements_at + 20 * i))) None

-- what a row does; one that is not there does nothing
abbrev pub done : Option StmtRow → Stmt
done None = Noop
done (Some x) = x.stmt

abbrev pub stmt : List ℕ → ℕ → Stmt
stmt s i = done (stmt_at s i)

-- what a statement refers to, by its kind
abbrev pub parts : Stmt → Parts
parts Noop = record { expr = None; body = None; branch = None; name = None; counter = None }
parts (Expr e) = record { expr = Some e; body = None; branch = None; name = None; counter = None }
parts (Body p) = record { expr = None; body = p; branch = None; name = None; counter = None }
parts (Assignment n e o i) = record { expr = Some e; body = None; branch = None; name = Some n; counter = None }
parts (Var n e i c) = record { expr = Some e; body = None; branch = None; name = Some n; counter = None }
parts (If e p q) = record { expr = Some e; body = p; branch = q; name = None; counter = None }
parts (While e p) = record { expr = Some e; body = p; branch = None; name = None; counter = None }
parts (Do e p n) = record { expr = Some e; body = p; branch = None; name = None; counter = None }
parts (For n c e p) = record { expr = Some e; body = p; branch = None; name = Some n; counter = c }
parts (BreakLoop e b) = record { expr = e; body = None; branch = None; name = None; counter = None }
parts (TryCatch p q n) = record { expr = None; body = p; branch = q; name = n; counter = None }
parts (Return e t) = record { expr = e; body = None; branch = None; name = None; counter = None }
parts (Import e n) = record { expr = Some e; body = None; branch = None; name = n; counter = None }

-- the rows of an image as they are read, and how many each table has; of the name text, the bytes
pub record Rows : Type 0 where
  pub blocks : ℕ
  pub statements : ℕ
  pub expressions : ℕ
  pub text : ℕ
  pub block : ℕ → Block
  pub statement : ℕ → Option StmtRow
  pub expression : ℕ → Option ExprRow

abbrev pub rows_of : List ℕ → Rows
rows_of s = record {
  blocks = (layout_of s).blocks;
  statements = (layout_of s).statements;
  expressions = (layout_of s).expressions;
  text = (layout_of s).text;
  block = block s;
  statement = stmt_at s;
  expression = expr_at s;
}

-- the name text, which is the last table
abbrev pub text_of : List ℕ → List ℕ
text_of s = drop (layout_of s).text_at s
