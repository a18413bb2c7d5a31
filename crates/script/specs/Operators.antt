-- the operators of the scripted host, by number
use Rattle.std.specs.Prelude.{ℕ, Bool, true, false, cond, Some, None, Ok, Err, ◌||◌, ◌==◌}
use Rattle.host.specs.Answers.{Applied}
use Rattle.host.specs.declared.answers.Fault.{Fault}
use Rattle.script.specs.declared.value.ScriptValue.{ScriptValue}

-- a fault at a position; line 0 and column 0 are none
abbrev pub fault_at : ℕ → ℕ → ℕ → Bool → Fault
fault_at code line column catchable = record { code = code; at = record { line = line; column = column }; catchable = catchable }

-- those that change their left side
abbrev pub changing : ℕ → ScriptValue → ScriptValue → Applied ScriptValue
changing op left right =
    cond (op == 1) (Ok (Some left))
    (cond (op == 2) (Ok (Some right))
    (cond (op == 3) (Err (fault_at 41 0 0 true))
    (cond (op == 4) (Err (fault_at 42 80 81 true))
    (cond (op == 5) (Err (fault_at 43 0 0 false)) (Ok None)))))

-- those of two values
abbrev pub joining : ℕ → ScriptValue → ScriptValue → Applied ScriptValue
joining op left right =
    cond (op == 2 || op == 6) (Ok (Some left))
    (cond (op == 7) (Ok (Some right))
    (cond (op == 8) (Err (fault_at 51 0 0 true))
    (cond (op == 9) (Err (fault_at 52 82 83 false)) (Ok None))))
