-- which rows can be written so that they are read as they are
use Rattle.std.specs.Prelude.{ℕ, ◌/◌, ◌%◌, Bool, true, ◌&&◌, List, [], ◌∷◌, length, Some, None, Option, ◌==◌, nat_le, nat_lt}
use Rattle.image.specs.declared.rows.Name.{Name}
use Rattle.image.specs.declared.rows.Stmt.{Stmt}
use Rattle.image.specs.declared.rows.Stmt.TheVariants.{Noop, Expr, Block, Assignment, Var, If, While, Do, For, BreakLoop, TryCatch, Return, Import}
use Rattle.sheet.specs.declared.sheet.Sheet.{Sheet}
use Rattle.sheet.specs.declared.sheet.StmtEntry.{StmtEntry}

-- a row's number: 65,535 stands for none
abbrev pub is_row : ℕ → Bool
is_row n = nat_lt n 65535

abbrev pub may_be_row : Option ℕ → Bool
may_be_row None = true
may_be_row (Some n) = is_row n

-- an operator or an index: 0 stands for none
abbrev pub may_be_positive : Option ℕ → Bool
may_be_positive None = true
may_be_positive (Some n) = nat_lt 0 n

-- a name: length 0 stands for none
abbrev pub is_name : Name → Bool
is_name n = nat_lt 0 n.length

abbrev pub may_be_name : Option Name → Bool
may_be_name None = true
may_be_name (Some n) = is_name n

-- the flag that the kind reads is not among the unread ones
abbrev pub is_free : ℕ → ℕ → Bool
is_free flags weight = (flags / weight) % 2 == 0

abbrev pub stmt_fits : Stmt → ℕ → Bool
stmt_fits Noop flags = true
stmt_fits (Expr e) flags = is_row e
stmt_fits (Block b) flags = may_be_row b
stmt_fits (Assignment n e o i) flags = is_name n && (is_row e && (may_be_positive o && may_be_positive i))
stmt_fits (Var n e i c) flags = is_name n && (is_row e && (may_be_positive i && is_free flags 1))
stmt_fits (If e b c) flags = is_row e && (may_be_row b && may_be_row c)
stmt_fits (While e b) flags = is_row e && may_be_row b
stmt_fits (Do e b n) flags = is_row e && (may_be_row b && is_free flags 4)
stmt_fits (For n c e b) flags = is_name n && (may_be_name c && (is_row e && may_be_row b))
stmt_fits (BreakLoop e b) flags = may_be_row e && is_free flags 8
stmt_fits (TryCatch b c n) flags = may_be_row b && (may_be_row c && may_be_name n)
stmt_fits (Return e t) flags = may_be_row e && is_free flags 8
stmt_fits (Import e n) flags = is_row e && may_be_name n

-- flags are at most 15
abbrev pub entry_fits : StmtEntry → Bool
entry_fits x = nat_le x.unread.flags 15 && stmt_fits x.row.stmt x.unread.flags

abbrev pub all_fit : List StmtEntry → Bool
all_fit [] = true
all_fit (x ∷ xs) = entry_fits x && all_fit xs

-- the counts are those that an image may have, and every statement can be written
abbrev pub in_range : Sheet → Bool
in_range x =
    (nat_le 1 (length x.blocks.now) && nat_le (length x.blocks.now) 256)
    && (nat_le (length x.statements.now) 1024 && (nat_le (length x.expressions.now) 1024 && (nat_le (length x.text.now) 2048
    && all_fit x.statements.now)))
