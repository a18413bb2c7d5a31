-- written by tests/samples/make-samples.py from recorded cases
use Rattle.std.specs.Prelude.{true, false, List, [], ◌∷◌, pos, negsuc, Some, None, Ok, Err}
use Rattle.rows.specs.declared.place.Source.TheVariants.{Rule, Site}
use Rattle.rows.specs.declared.variable.Access.TheVariants.{ReadWrite, Constant as ConstantAccess}
use Rattle.rows.specs.Rows.{variable, import}
use Rattle.outcome.specs.Faults.{nothing, name, operator, path, code, value}
use Rattle.list.specs.declared.list_host.ListEntry.TheVariants as entry
use Rattle.site.specs.declared.expr.Operand.TheVariants.{Constant, Variable}
use Rattle.site.specs.declared.expr.Operator.TheVariants.{Add, Subtract, Equal}
use Rattle.site.specs.declared.expr.SiteExpr.TheVariants.{Operand, Binary}
use Rattle.site.specs.declared.value.SiteValue.TheVariants as w
use Rattle.script.specs.declared.answer.AllowAnswer.TheVariants as allow
use Rattle.script.specs.declared.answer.EvalAnswer.TheVariants as eval
use Rattle.script.specs.declared.effect.Effect.TheVariants.{Append, Set}
use Rattle.script.specs.declared.value.ScriptValue.TheVariants as v
use Rattle.run.specs.Session.{put, read, rewind, run}
use Rattle.samples.specs.Samples.{Sample, site, scripted, listed, place, fault, evaluation, declaration, row, lend, passes, refused, made, got, ran, told}

abbrev pub table : List Sample
table =
    -- empty-rule
    record {
      image = (82 ∷ 72 ∷ 83 ∷ 1 ∷ 0 ∷ 0 ∷ 1 ∷ 0 ∷ 0 ∷ 0 ∷ 0 ∷ 0 ∷ 9 ∷ 0 ∷ 0 ∷ 0 ∷ 0 ∷ 0 ∷ 97 ∷ 98 ∷ 99 ∷ 100 ∷ 101 ∷ 102 ∷ 97 ∷ 98 ∷ 99 ∷ []);
      text = (97 ∷ 98 ∷ 99 ∷ 113 ∷ []);
      operations = 100;
      names = 10;
      modules = 0;
      host = (site []);
      first = [];
      second = [];
      opening = lend 128 16 64;
      calls = ((lend 128 16 64, run false) ∷ []);
      check = (passes (Some 0));
      answers = ((ran (told 0 (value v.Unit) 0 0) 0 [] []) ∷ []);
    }
    ∷  -- let
    record {
      image = (82 ∷ 72 ∷ 83 ∷ 1 ∷ 0 ∷ 0 ∷ 1 ∷ 0 ∷ 1 ∷ 0 ∷ 1 ∷ 0 ∷ 9 ∷ 0 ∷ 0 ∷ 0 ∷ 1 ∷ 0 ∷ 4 ∷ 0 ∷ 1 ∷ 0 ∷ 1 ∷ 0 ∷ 0 ∷ 0 ∷ 0 ∷ 0 ∷ 0 ∷ 0 ∷ 0 ∷ 0 ∷ 1 ∷ 0 ∷ 0 ∷ 0 ∷ 0 ∷ 0 ∷ 0 ∷ 0 ∷ 1 ∷ 0 ∷ 5 ∷ 0 ∷ 0 ∷ 0 ∷ 97 ∷ 98 ∷ 99 ∷ 100 ∷ 101 ∷ 102 ∷ 97 ∷ 98 ∷ 99 ∷ []);
      text = (97 ∷ 98 ∷ 99 ∷ 113 ∷ []);
      operations = 100;
      names = 10;
      modules = 0;
      host = (site ((Operand (Constant (w.Number (pos 5)))) ∷ []));
      first = [];
      second = [];
      opening = lend 128 16 64;
      calls = ((lend 128 16 64, run false) ∷ []);
      check = (passes (Some 2));
      answers = ((ran (told 0 (value v.Unit) 0 0) 2 ((variable (place Rule 0 1) ReadWrite (v.Number (pos 5))) ∷ []) []) ∷ []);
    }
    ∷  -- let-with-one-operation
    record {
      image = (82 ∷ 72 ∷ 83 ∷ 1 ∷ 0 ∷ 0 ∷ 1 ∷ 0 ∷ 1 ∷ 0 ∷ 1 ∷ 0 ∷ 9 ∷ 0 ∷ 0 ∷ 0 ∷ 1 ∷ 0 ∷ 4 ∷ 0 ∷ 1 ∷ 0 ∷ 1 ∷ 0 ∷ 0 ∷ 0 ∷ 0 ∷ 0 ∷ 0 ∷ 0 ∷ 0 ∷ 0 ∷ 1 ∷ 0 ∷ 0 ∷ 0 ∷ 0 ∷ 0 ∷ 0 ∷ 0 ∷ 1 ∷ 0 ∷ 5 ∷ 0 ∷ 0 ∷ 0 ∷ 97 ∷ 98 ∷ 99 ∷ 100 ∷ 101 ∷ 102 ∷ 97 ∷ 98 ∷ 99 ∷ []);
      text = (97 ∷ 98 ∷ 99 ∷ 113 ∷ []);
      operations = 1;
      names = 10;
      modules = 0;
      host = (site ((Operand (Constant (w.Number (pos 5)))) ∷ []));
      first = [];
      second = [];
      opening = lend 128 16 64;
      calls = ((lend 128 16 64, run false) ∷ []);
      check = (passes (Some 2));
      answers = ((ran (told 12 nothing 1 5) 2 [] []) ∷ []);
    }
    ∷  -- let-and-add
    record {
      image = (82 ∷ 72 ∷ 83 ∷ 1 ∷ 0 ∷ 0 ∷ 1 ∷ 0 ∷ 2 ∷ 0 ∷ 2 ∷ 0 ∷ 9 ∷ 0 ∷ 0 ∷ 0 ∷ 2 ∷ 0 ∷ 4 ∷ 0 ∷ 1 ∷ 0 ∷ 1 ∷ 0 ∷ 0 ∷ 0 ∷ 0 ∷ 0 ∷ 0 ∷ 0 ∷ 0 ∷ 0 ∷ 1 ∷ 0 ∷ 0 ∷ 0 ∷ 0 ∷ 0 ∷ 3 ∷ 0 ∷ 2 ∷ 0 ∷ 1 ∷ 0 ∷ 1 ∷ 0 ∷ 0 ∷ 0 ∷ 1 ∷ 0 ∷ 0 ∷ 0 ∷ 1 ∷ 0 ∷ 1 ∷ 0 ∷ 0 ∷ 0 ∷ 0 ∷ 0 ∷ 1 ∷ 0 ∷ 5 ∷ 0 ∷ 0 ∷ 0 ∷ 0 ∷ 0 ∷ 2 ∷ 0 ∷ 5 ∷ 0 ∷ 1 ∷ 0 ∷ 97 ∷ 98 ∷ 99 ∷ 100 ∷ 101 ∷ 102 ∷ 97 ∷ 98 ∷ 99 ∷ []);
      text = (97 ∷ 98 ∷ 99 ∷ 113 ∷ []);
      operations = 100;
      names = 10;
      modules = 0;
      host = (site ((Operand (Constant (w.Number (pos 5)))) ∷ (Operand (Constant (w.Number (pos 1)))) ∷ []));
      first = [];
      second = [];
      opening = lend 128 16 64;
      calls = ((lend 128 16 64, run false) ∷ []);
      check = (passes (Some 5));
      answers = ((ran (told 0 (value v.Unit) 0 0) 5 ((variable (place Rule 0 1) ReadWrite (v.Number (pos 6))) ∷ []) []) ∷ []);
    }
    ∷  -- while-false
    record {
      image = (82 ∷ 72 ∷ 83 ∷ 1 ∷ 0 ∷ 0 ∷ 1 ∷ 0 ∷ 1 ∷ 0 ∷ 1 ∷ 0 ∷ 9 ∷ 0 ∷ 0 ∷ 0 ∷ 1 ∷ 0 ∷ 7 ∷ 0 ∷ 1 ∷ 0 ∷ 1 ∷ 0 ∷ 0 ∷ 0 ∷ 255 ∷ 255 ∷ 0 ∷ 0 ∷ 0 ∷ 0 ∷ 0 ∷ 0 ∷ 0 ∷ 0 ∷ 0 ∷ 0 ∷ 2 ∷ 0 ∷ 1 ∷ 0 ∷ 5 ∷ 0 ∷ 0 ∷ 0 ∷ 97 ∷ 98 ∷ 99 ∷ 100 ∷ 101 ∷ 102 ∷ 97 ∷ 98 ∷ 99 ∷ []);
      text = (97 ∷ 98 ∷ 99 ∷ 113 ∷ []);
      operations = 100;
      names = 10;
      modules = 0;
      host = (site []);
      first = [];
      second = [];
      opening = lend 128 16 64;
      calls = ((lend 128 16 64, run false) ∷ []);
      check = (passes None);
      answers = ((ran (told 0 (value v.Unit) 0 0) 2 [] []) ∷ []);
    }
    ∷  -- throw-caught-and-thrown-again
    record {
      image = (82 ∷ 72 ∷ 83 ∷ 1 ∷ 0 ∷ 0 ∷ 3 ∷ 0 ∷ 3 ∷ 0 ∷ 1 ∷ 0 ∷ 9 ∷ 0 ∷ 0 ∷ 0 ∷ 1 ∷ 0 ∷ 1 ∷ 0 ∷ 1 ∷ 0 ∷ 2 ∷ 0 ∷ 1 ∷ 0 ∷ 11 ∷ 0 ∷ 1 ∷ 0 ∷ 1 ∷ 0 ∷ 0 ∷ 0 ∷ 1 ∷ 0 ∷ 2 ∷ 0 ∷ 4 ∷ 0 ∷ 1 ∷ 0 ∷ 0 ∷ 0 ∷ 0 ∷ 0 ∷ 12 ∷ 8 ∷ 2 ∷ 0 ∷ 1 ∷ 0 ∷ 0 ∷ 0 ∷ 0 ∷ 0 ∷ 0 ∷ 0 ∷ 0 ∷ 0 ∷ 0 ∷ 0 ∷ 0 ∷ 0 ∷ 0 ∷ 0 ∷ 12 ∷ 8 ∷ 3 ∷ 0 ∷ 1 ∷ 0 ∷ 255 ∷ 255 ∷ 0 ∷ 0 ∷ 0 ∷ 0 ∷ 0 ∷ 0 ∷ 0 ∷ 0 ∷ 0 ∷ 0 ∷ 0 ∷ 0 ∷ 0 ∷ 0 ∷ 2 ∷ 0 ∷ 5 ∷ 0 ∷ 0 ∷ 0 ∷ 97 ∷ 98 ∷ 99 ∷ 100 ∷ 101 ∷ 102 ∷ 97 ∷ 98 ∷ 99 ∷ []);
      text = (97 ∷ 98 ∷ 99 ∷ 113 ∷ []);
      operations = 100;
      names = 10;
      modules = 0;
      host = (site ((Operand (Constant (w.Number (pos 4)))) ∷ []));
      first = [];
      second = [];
      opening = lend 128 16 64;
      calls = ((lend 128 16 64, run false) ∷ []);
      check = (passes (Some 4));
      answers = ((ran (told 24 (value (v.Number (pos 4))) 3 1) 4 [] []) ∷ []);
    }
    ∷  -- do-that-always-continues
    record {
      image = (82 ∷ 72 ∷ 83 ∷ 1 ∷ 0 ∷ 0 ∷ 2 ∷ 0 ∷ 2 ∷ 0 ∷ 1 ∷ 0 ∷ 9 ∷ 0 ∷ 0 ∷ 0 ∷ 1 ∷ 0 ∷ 1 ∷ 0 ∷ 1 ∷ 0 ∷ 8 ∷ 0 ∷ 1 ∷ 0 ∷ 1 ∷ 0 ∷ 0 ∷ 0 ∷ 1 ∷ 0 ∷ 0 ∷ 0 ∷ 0 ∷ 0 ∷ 0 ∷ 0 ∷ 0 ∷ 0 ∷ 0 ∷ 0 ∷ 10 ∷ 0 ∷ 2 ∷ 0 ∷ 1 ∷ 0 ∷ 255 ∷ 255 ∷ 0 ∷ 0 ∷ 0 ∷ 0 ∷ 0 ∷ 0 ∷ 0 ∷ 0 ∷ 0 ∷ 0 ∷ 0 ∷ 0 ∷ 2 ∷ 0 ∷ 1 ∷ 0 ∷ 5 ∷ 0 ∷ 0 ∷ 0 ∷ 97 ∷ 98 ∷ 99 ∷ 100 ∷ 101 ∷ 102 ∷ 97 ∷ 98 ∷ 99 ∷ []);
      text = (97 ∷ 98 ∷ 99 ∷ 113 ∷ []);
      operations = 10;
      names = 10;
      modules = 0;
      host = (site []);
      first = [];
      second = [];
      opening = lend 128 16 64;
      calls = ((lend 128 16 64, run false) ∷ []);
      check = (passes None);
      answers = ((ran (told 12 nothing 2 1) 11 [] []) ∷ []);
    }
    ∷  -- second-let-with-one-name
    record {
      image = (82 ∷ 72 ∷ 83 ∷ 1 ∷ 0 ∷ 0 ∷ 1 ∷ 0 ∷ 2 ∷ 0 ∷ 2 ∷ 0 ∷ 9 ∷ 0 ∷ 0 ∷ 0 ∷ 2 ∷ 0 ∷ 4 ∷ 0 ∷ 1 ∷ 0 ∷ 1 ∷ 0 ∷ 0 ∷ 0 ∷ 0 ∷ 0 ∷ 0 ∷ 0 ∷ 0 ∷ 0 ∷ 1 ∷ 0 ∷ 0 ∷ 0 ∷ 0 ∷ 0 ∷ 4 ∷ 0 ∷ 2 ∷ 0 ∷ 1 ∷ 0 ∷ 1 ∷ 0 ∷ 0 ∷ 0 ∷ 0 ∷ 0 ∷ 1 ∷ 0 ∷ 1 ∷ 0 ∷ 0 ∷ 0 ∷ 0 ∷ 0 ∷ 0 ∷ 0 ∷ 1 ∷ 0 ∷ 5 ∷ 0 ∷ 0 ∷ 0 ∷ 0 ∷ 0 ∷ 2 ∷ 0 ∷ 5 ∷ 0 ∷ 1 ∷ 0 ∷ 97 ∷ 98 ∷ 99 ∷ 100 ∷ 101 ∷ 102 ∷ 97 ∷ 98 ∷ 99 ∷ []);
      text = (97 ∷ 98 ∷ 99 ∷ 113 ∷ []);
      operations = 100;
      names = 1;
      modules = 0;
      host = (site ((Operand (Constant (w.Number (pos 1)))) ∷ (Operand (Constant (w.Number (pos 2)))) ∷ []));
      first = [];
      second = [];
      opening = lend 128 16 64;
      calls = ((lend 128 16 64, run false) ∷ []);
      check = (passes (Some 4));
      answers = ((ran (told 14 nothing 2 1) 3 ((variable (place Rule 0 1) ReadWrite (v.Number (pos 1))) ∷ []) []) ∷ []);
    }
    ∷  -- index-overwrites-a-constant
    record {
      image = (82 ∷ 72 ∷ 83 ∷ 1 ∷ 0 ∷ 0 ∷ 1 ∷ 0 ∷ 2 ∷ 0 ∷ 2 ∷ 0 ∷ 9 ∷ 0 ∷ 0 ∷ 0 ∷ 2 ∷ 0 ∷ 4 ∷ 1 ∷ 1 ∷ 0 ∷ 1 ∷ 0 ∷ 0 ∷ 0 ∷ 0 ∷ 0 ∷ 0 ∷ 0 ∷ 0 ∷ 0 ∷ 1 ∷ 0 ∷ 0 ∷ 0 ∷ 0 ∷ 0 ∷ 4 ∷ 0 ∷ 2 ∷ 0 ∷ 1 ∷ 0 ∷ 1 ∷ 0 ∷ 0 ∷ 0 ∷ 0 ∷ 0 ∷ 0 ∷ 0 ∷ 1 ∷ 0 ∷ 1 ∷ 0 ∷ 0 ∷ 0 ∷ 0 ∷ 0 ∷ 1 ∷ 0 ∷ 5 ∷ 0 ∷ 0 ∷ 0 ∷ 0 ∷ 0 ∷ 2 ∷ 0 ∷ 5 ∷ 0 ∷ 0 ∷ 0 ∷ 97 ∷ 98 ∷ 99 ∷ 100 ∷ 101 ∷ 102 ∷ 97 ∷ 98 ∷ 99 ∷ []);
      text = (97 ∷ 98 ∷ 99 ∷ 113 ∷ []);
      operations = 100;
      names = 10;
      modules = 0;
      host = (scripted ((evaluation None None (eval.Value (v.Number (pos 1)))) ∷ (evaluation None None (eval.Value (v.Number (pos 2)))) ∷ []) []);
      first = [];
      second = [];
      opening = lend 128 16 64;
      calls = ((lend 128 16 64, run false) ∷ []);
      check = (passes (Some 4));
      answers = ((ran (told 0 (value v.Unit) 0 0) 4 ((variable (place Rule 0 1) ReadWrite (v.Number (pos 2))) ∷ []) []) ∷ []);
    }
    ∷  -- index-meets-no-limit
    record {
      image = (82 ∷ 72 ∷ 83 ∷ 1 ∷ 0 ∷ 0 ∷ 1 ∷ 0 ∷ 2 ∷ 0 ∷ 2 ∷ 0 ∷ 9 ∷ 0 ∷ 0 ∷ 0 ∷ 2 ∷ 0 ∷ 4 ∷ 0 ∷ 1 ∷ 0 ∷ 1 ∷ 0 ∷ 0 ∷ 0 ∷ 0 ∷ 0 ∷ 0 ∷ 0 ∷ 0 ∷ 0 ∷ 1 ∷ 0 ∷ 0 ∷ 0 ∷ 0 ∷ 0 ∷ 4 ∷ 0 ∷ 2 ∷ 0 ∷ 1 ∷ 0 ∷ 1 ∷ 0 ∷ 0 ∷ 0 ∷ 0 ∷ 0 ∷ 0 ∷ 0 ∷ 1 ∷ 0 ∷ 1 ∷ 0 ∷ 0 ∷ 0 ∷ 0 ∷ 0 ∷ 1 ∷ 0 ∷ 5 ∷ 0 ∷ 0 ∷ 0 ∷ 0 ∷ 0 ∷ 2 ∷ 0 ∷ 5 ∷ 0 ∷ 0 ∷ 0 ∷ 97 ∷ 98 ∷ 99 ∷ 100 ∷ 101 ∷ 102 ∷ 97 ∷ 98 ∷ 99 ∷ []);
      text = (97 ∷ 98 ∷ 99 ∷ 113 ∷ []);
      operations = 100;
      names = 1;
      modules = 0;
      host = (scripted ((evaluation None None (eval.Value (v.Number (pos 1)))) ∷ (evaluation None None (eval.Value (v.Number (pos 9)))) ∷ []) []);
      first = [];
      second = [];
      opening = lend 128 16 64;
      calls = ((lend 128 16 64, run false) ∷ []);
      check = (passes (Some 4));
      answers = ((ran (told 0 (value v.Unit) 0 0) 4 ((variable (place Rule 0 1) ReadWrite (v.Number (pos 9))) ∷ []) []) ∷ []);
    }
    ∷  -- index-makes-a-row-constant
    record {
      image = (82 ∷ 72 ∷ 83 ∷ 1 ∷ 0 ∷ 0 ∷ 1 ∷ 0 ∷ 3 ∷ 0 ∷ 3 ∷ 0 ∷ 9 ∷ 0 ∷ 0 ∷ 0 ∷ 3 ∷ 0 ∷ 4 ∷ 0 ∷ 1 ∷ 0 ∷ 1 ∷ 0 ∷ 0 ∷ 0 ∷ 0 ∷ 0 ∷ 0 ∷ 0 ∷ 0 ∷ 0 ∷ 1 ∷ 0 ∷ 0 ∷ 0 ∷ 0 ∷ 0 ∷ 4 ∷ 1 ∷ 2 ∷ 0 ∷ 1 ∷ 0 ∷ 1 ∷ 0 ∷ 0 ∷ 0 ∷ 0 ∷ 0 ∷ 0 ∷ 0 ∷ 1 ∷ 0 ∷ 1 ∷ 0 ∷ 0 ∷ 0 ∷ 3 ∷ 0 ∷ 3 ∷ 0 ∷ 1 ∷ 0 ∷ 2 ∷ 0 ∷ 0 ∷ 0 ∷ 0 ∷ 0 ∷ 0 ∷ 0 ∷ 1 ∷ 0 ∷ 0 ∷ 0 ∷ 0 ∷ 0 ∷ 0 ∷ 0 ∷ 1 ∷ 0 ∷ 5 ∷ 0 ∷ 0 ∷ 0 ∷ 0 ∷ 0 ∷ 2 ∷ 0 ∷ 5 ∷ 0 ∷ 0 ∷ 0 ∷ 0 ∷ 0 ∷ 3 ∷ 0 ∷ 5 ∷ 0 ∷ 0 ∷ 0 ∷ 97 ∷ 98 ∷ 99 ∷ 100 ∷ 101 ∷ 102 ∷ 97 ∷ 98 ∷ 99 ∷ []);
      text = (97 ∷ 98 ∷ 99 ∷ 113 ∷ []);
      operations = 100;
      names = 10;
      modules = 0;
      host = (scripted ((evaluation None None (eval.Value (v.Number (pos 1)))) ∷ []) []);
      first = [];
      second = [];
      opening = lend 128 16 64;
      calls = ((lend 128 16 64, run false) ∷ []);
      check = (passes (Some 7));
      answers = ((ran (told 19 (name (place Rule 0 1)) 3 1) 7 ((variable (place Rule 0 1) ConstantAccess (v.Number (pos 1))) ∷ []) []) ∷ []);
    }
    ∷  -- index-asks-allow-too
    record {
      image = (82 ∷ 72 ∷ 83 ∷ 1 ∷ 0 ∷ 0 ∷ 1 ∷ 0 ∷ 2 ∷ 0 ∷ 2 ∷ 0 ∷ 9 ∷ 0 ∷ 0 ∷ 0 ∷ 2 ∷ 0 ∷ 4 ∷ 0 ∷ 1 ∷ 0 ∷ 1 ∷ 0 ∷ 0 ∷ 0 ∷ 0 ∷ 0 ∷ 0 ∷ 0 ∷ 0 ∷ 0 ∷ 1 ∷ 0 ∷ 0 ∷ 0 ∷ 0 ∷ 0 ∷ 4 ∷ 0 ∷ 2 ∷ 0 ∷ 1 ∷ 0 ∷ 1 ∷ 0 ∷ 0 ∷ 0 ∷ 0 ∷ 0 ∷ 0 ∷ 0 ∷ 1 ∷ 0 ∷ 1 ∷ 0 ∷ 0 ∷ 0 ∷ 0 ∷ 0 ∷ 1 ∷ 0 ∷ 5 ∷ 0 ∷ 0 ∷ 0 ∷ 0 ∷ 0 ∷ 2 ∷ 0 ∷ 5 ∷ 0 ∷ 0 ∷ 0 ∷ 97 ∷ 98 ∷ 99 ∷ 100 ∷ 101 ∷ 102 ∷ 97 ∷ 98 ∷ 99 ∷ []);
      text = (97 ∷ 98 ∷ 99 ∷ 113 ∷ []);
      operations = 100;
      names = 10;
      modules = 0;
      host = (scripted ((evaluation None None (eval.Value (v.Number (pos 1)))) ∷ []) ((declaration None None allow.Yes) ∷ (declaration None None allow.No) ∷ []));
      first = [];
      second = [];
      opening = lend 128 16 64;
      calls = ((lend 128 16 64, run false) ∷ []);
      check = (passes (Some 4));
      answers = ((ran (told 13 (name (place Rule 0 1)) 2 1) 3 ((variable (place Rule 0 1) ReadWrite (v.Number (pos 1))) ∷ []) []) ∷ []);
    }
    ∷  -- allow-says-no
    record {
      image = (82 ∷ 72 ∷ 83 ∷ 1 ∷ 0 ∷ 0 ∷ 1 ∷ 0 ∷ 1 ∷ 0 ∷ 1 ∷ 0 ∷ 9 ∷ 0 ∷ 0 ∷ 0 ∷ 1 ∷ 0 ∷ 4 ∷ 0 ∷ 1 ∷ 0 ∷ 1 ∷ 0 ∷ 0 ∷ 0 ∷ 0 ∷ 0 ∷ 0 ∷ 0 ∷ 0 ∷ 0 ∷ 1 ∷ 0 ∷ 0 ∷ 0 ∷ 0 ∷ 0 ∷ 0 ∷ 0 ∷ 1 ∷ 0 ∷ 5 ∷ 0 ∷ 0 ∷ 0 ∷ 97 ∷ 98 ∷ 99 ∷ 100 ∷ 101 ∷ 102 ∷ 97 ∷ 98 ∷ 99 ∷ []);
      text = (97 ∷ 98 ∷ 99 ∷ 113 ∷ []);
      operations = 100;
      names = 10;
      modules = 0;
      host = (scripted [] ((declaration None None allow.No) ∷ []));
      first = [];
      second = [];
      opening = lend 128 16 64;
      calls = ((lend 128 16 64, run false) ∷ []);
      check = (passes (Some 2));
      answers = ((ran (told 13 (name (place Rule 0 1)) 1 1) 1 [] []) ∷ []);
    }
    ∷  -- allow-says-no-but-appends
    record {
      image = (82 ∷ 72 ∷ 83 ∷ 1 ∷ 0 ∷ 0 ∷ 2 ∷ 0 ∷ 3 ∷ 0 ∷ 2 ∷ 0 ∷ 9 ∷ 0 ∷ 0 ∷ 0 ∷ 2 ∷ 0 ∷ 2 ∷ 0 ∷ 1 ∷ 0 ∷ 11 ∷ 0 ∷ 1 ∷ 0 ∷ 1 ∷ 0 ∷ 0 ∷ 0 ∷ 1 ∷ 0 ∷ 255 ∷ 255 ∷ 0 ∷ 0 ∷ 0 ∷ 0 ∷ 0 ∷ 0 ∷ 0 ∷ 0 ∷ 4 ∷ 0 ∷ 2 ∷ 0 ∷ 1 ∷ 0 ∷ 0 ∷ 0 ∷ 0 ∷ 0 ∷ 0 ∷ 0 ∷ 1 ∷ 0 ∷ 1 ∷ 0 ∷ 0 ∷ 0 ∷ 0 ∷ 0 ∷ 4 ∷ 0 ∷ 3 ∷ 0 ∷ 1 ∷ 0 ∷ 1 ∷ 0 ∷ 0 ∷ 0 ∷ 0 ∷ 0 ∷ 0 ∷ 0 ∷ 1 ∷ 0 ∷ 0 ∷ 0 ∷ 0 ∷ 0 ∷ 0 ∷ 0 ∷ 2 ∷ 0 ∷ 5 ∷ 0 ∷ 0 ∷ 0 ∷ 0 ∷ 0 ∷ 3 ∷ 0 ∷ 5 ∷ 0 ∷ 0 ∷ 0 ∷ 97 ∷ 98 ∷ 99 ∷ 100 ∷ 101 ∷ 102 ∷ 97 ∷ 98 ∷ 99 ∷ []);
      text = (97 ∷ 98 ∷ 99 ∷ 113 ∷ []);
      operations = 100;
      names = 10;
      modules = 0;
      host = (scripted ((evaluation None None eval.Mark) ∷ []) ((declaration (Some (Append (place Site 3 1) (v.Number (pos 1)))) None allow.No) ∷ (declaration None None allow.Yes) ∷ []));
      first = [];
      second = [];
      opening = lend 128 16 64;
      calls = ((lend 128 16 64, run false) ∷ []);
      check = (passes (Some 5));
      answers = ((ran (told 0 (value v.Unit) 0 0) 4 ((variable (place Rule 1 1) ReadWrite (v.Truth false)) ∷ []) []) ∷ []);
    }
    ∷  -- allow-faults-without-position
    record {
      image = (82 ∷ 72 ∷ 83 ∷ 1 ∷ 0 ∷ 0 ∷ 1 ∷ 0 ∷ 1 ∷ 0 ∷ 1 ∷ 0 ∷ 9 ∷ 0 ∷ 0 ∷ 0 ∷ 1 ∷ 0 ∷ 4 ∷ 0 ∷ 1 ∷ 0 ∷ 1 ∷ 0 ∷ 0 ∷ 0 ∷ 0 ∷ 0 ∷ 0 ∷ 0 ∷ 0 ∷ 0 ∷ 1 ∷ 0 ∷ 0 ∷ 0 ∷ 0 ∷ 0 ∷ 0 ∷ 0 ∷ 1 ∷ 0 ∷ 5 ∷ 0 ∷ 0 ∷ 0 ∷ 97 ∷ 98 ∷ 99 ∷ 100 ∷ 101 ∷ 102 ∷ 97 ∷ 98 ∷ 99 ∷ []);
      text = (97 ∷ 98 ∷ 99 ∷ 113 ∷ []);
      operations = 100;
      names = 10;
      modules = 0;
      host = (scripted [] ((declaration None None (allow.Fault (fault 7 0 0 true))) ∷ []));
      first = [];
      second = [];
      opening = lend 128 16 64;
      calls = ((lend 128 16 64, run false) ∷ []);
      check = (passes (Some 2));
      answers = ((ran (told 25 (code 7) 0 0) 1 [] []) ∷ []);
    }
    ∷  -- allow-faults-with-position
    record {
      image = (82 ∷ 72 ∷ 83 ∷ 1 ∷ 0 ∷ 0 ∷ 1 ∷ 0 ∷ 1 ∷ 0 ∷ 1 ∷ 0 ∷ 9 ∷ 0 ∷ 0 ∷ 0 ∷ 1 ∷ 0 ∷ 4 ∷ 0 ∷ 1 ∷ 0 ∷ 1 ∷ 0 ∷ 0 ∷ 0 ∷ 0 ∷ 0 ∷ 0 ∷ 0 ∷ 0 ∷ 0 ∷ 1 ∷ 0 ∷ 0 ∷ 0 ∷ 0 ∷ 0 ∷ 0 ∷ 0 ∷ 1 ∷ 0 ∷ 5 ∷ 0 ∷ 0 ∷ 0 ∷ 97 ∷ 98 ∷ 99 ∷ 100 ∷ 101 ∷ 102 ∷ 97 ∷ 98 ∷ 99 ∷ []);
      text = (97 ∷ 98 ∷ 99 ∷ 113 ∷ []);
      operations = 100;
      names = 10;
      modules = 0;
      host = (scripted [] ((declaration None None (allow.Fault (fault 7 40 2 true))) ∷ []));
      first = [];
      second = [];
      opening = lend 128 16 64;
      calls = ((lend 128 16 64, run false) ∷ []);
      check = (passes (Some 2));
      answers = ((ran (told 25 (code 7) 40 2) 1 [] []) ∷ []);
    }
    ∷  -- allow-is-told-the-level
    record {
      image = (82 ∷ 72 ∷ 83 ∷ 1 ∷ 0 ∷ 0 ∷ 3 ∷ 0 ∷ 4 ∷ 0 ∷ 2 ∷ 0 ∷ 9 ∷ 0 ∷ 0 ∷ 0 ∷ 1 ∷ 0 ∷ 1 ∷ 0 ∷ 2 ∷ 0 ∷ 3 ∷ 0 ∷ 1 ∷ 0 ∷ 2 ∷ 0 ∷ 1 ∷ 0 ∷ 1 ∷ 0 ∷ 0 ∷ 0 ∷ 1 ∷ 0 ∷ 0 ∷ 0 ∷ 0 ∷ 0 ∷ 0 ∷ 0 ∷ 0 ∷ 0 ∷ 0 ∷ 0 ∷ 2 ∷ 0 ∷ 2 ∷ 0 ∷ 1 ∷ 0 ∷ 0 ∷ 0 ∷ 2 ∷ 0 ∷ 0 ∷ 0 ∷ 0 ∷ 0 ∷ 0 ∷ 0 ∷ 0 ∷ 0 ∷ 0 ∷ 0 ∷ 4 ∷ 0 ∷ 3 ∷ 0 ∷ 1 ∷ 0 ∷ 0 ∷ 0 ∷ 0 ∷ 0 ∷ 0 ∷ 0 ∷ 1 ∷ 0 ∷ 1 ∷ 0 ∷ 0 ∷ 0 ∷ 0 ∷ 0 ∷ 4 ∷ 0 ∷ 4 ∷ 0 ∷ 1 ∷ 0 ∷ 1 ∷ 0 ∷ 0 ∷ 0 ∷ 0 ∷ 0 ∷ 0 ∷ 0 ∷ 1 ∷ 0 ∷ 0 ∷ 0 ∷ 0 ∷ 0 ∷ 0 ∷ 0 ∷ 3 ∷ 0 ∷ 5 ∷ 0 ∷ 0 ∷ 0 ∷ 0 ∷ 0 ∷ 4 ∷ 0 ∷ 5 ∷ 0 ∷ 0 ∷ 0 ∷ 97 ∷ 98 ∷ 99 ∷ 100 ∷ 101 ∷ 102 ∷ 97 ∷ 98 ∷ 99 ∷ []);
      text = (97 ∷ 98 ∷ 99 ∷ 113 ∷ []);
      operations = 100;
      names = 10;
      modules = 0;
      host = (scripted [] ((declaration None None (allow.Level 2)) ∷ []));
      first = [];
      second = [];
      opening = lend 128 16 64;
      calls = ((lend 128 16 64, run false) ∷ []);
      check = (passes (Some 6));
      answers = ((ran (told 13 (name (place Rule 1 1)) 3 1) 5 [] []) ∷ []);
    }
    ∷  -- allow-is-told-what-is-present
    record {
      image = (82 ∷ 72 ∷ 83 ∷ 1 ∷ 0 ∷ 0 ∷ 2 ∷ 0 ∷ 4 ∷ 0 ∷ 3 ∷ 0 ∷ 9 ∷ 0 ∷ 0 ∷ 0 ∷ 3 ∷ 0 ∷ 3 ∷ 0 ∷ 1 ∷ 0 ∷ 4 ∷ 0 ∷ 1 ∷ 0 ∷ 1 ∷ 0 ∷ 0 ∷ 0 ∷ 0 ∷ 0 ∷ 0 ∷ 0 ∷ 0 ∷ 0 ∷ 1 ∷ 0 ∷ 0 ∷ 0 ∷ 0 ∷ 0 ∷ 2 ∷ 0 ∷ 2 ∷ 0 ∷ 1 ∷ 0 ∷ 0 ∷ 0 ∷ 1 ∷ 0 ∷ 0 ∷ 0 ∷ 0 ∷ 0 ∷ 0 ∷ 0 ∷ 0 ∷ 0 ∷ 0 ∷ 0 ∷ 4 ∷ 0 ∷ 3 ∷ 0 ∷ 1 ∷ 0 ∷ 1 ∷ 0 ∷ 0 ∷ 0 ∷ 0 ∷ 0 ∷ 1 ∷ 0 ∷ 1 ∷ 0 ∷ 0 ∷ 0 ∷ 0 ∷ 0 ∷ 4 ∷ 0 ∷ 4 ∷ 0 ∷ 1 ∷ 0 ∷ 2 ∷ 0 ∷ 0 ∷ 0 ∷ 0 ∷ 0 ∷ 0 ∷ 0 ∷ 1 ∷ 0 ∷ 0 ∷ 0 ∷ 0 ∷ 0 ∷ 0 ∷ 0 ∷ 1 ∷ 0 ∷ 5 ∷ 0 ∷ 0 ∷ 0 ∷ 0 ∷ 0 ∷ 3 ∷ 0 ∷ 5 ∷ 0 ∷ 0 ∷ 0 ∷ 0 ∷ 0 ∷ 4 ∷ 0 ∷ 5 ∷ 0 ∷ 0 ∷ 0 ∷ 97 ∷ 98 ∷ 99 ∷ 100 ∷ 101 ∷ 102 ∷ 97 ∷ 98 ∷ 99 ∷ []);
      text = (97 ∷ 98 ∷ 99 ∷ 113 ∷ []);
      operations = 100;
      names = 10;
      modules = 0;
      host = (scripted [] ((declaration None None allow.Yes) ∷ (declaration None None allow.Present) ∷ []));
      first = [];
      second = [];
      opening = lend 128 16 64;
      calls = ((lend 128 16 64, run false) ∷ []);
      check = (passes (Some 7));
      answers = ((ran (told 0 (value v.Unit) 0 0) 7 ((variable (place Rule 0 1) ReadWrite v.Unit) ∷ (variable (place Rule 1 1) ReadWrite v.Unit) ∷ []) []) ∷ []);
    }
    ∷  -- allow-is-told-what-is-absent
    record {
      image = (82 ∷ 72 ∷ 83 ∷ 1 ∷ 0 ∷ 0 ∷ 1 ∷ 0 ∷ 1 ∷ 0 ∷ 1 ∷ 0 ∷ 9 ∷ 0 ∷ 0 ∷ 0 ∷ 1 ∷ 0 ∷ 4 ∷ 0 ∷ 1 ∷ 0 ∷ 1 ∷ 0 ∷ 0 ∷ 0 ∷ 0 ∷ 0 ∷ 0 ∷ 0 ∷ 0 ∷ 0 ∷ 1 ∷ 0 ∷ 0 ∷ 0 ∷ 0 ∷ 0 ∷ 0 ∷ 0 ∷ 1 ∷ 0 ∷ 5 ∷ 0 ∷ 0 ∷ 0 ∷ 97 ∷ 98 ∷ 99 ∷ 100 ∷ 101 ∷ 102 ∷ 97 ∷ 98 ∷ 99 ∷ []);
      text = (97 ∷ 98 ∷ 99 ∷ 113 ∷ []);
      operations = 100;
      names = 10;
      modules = 0;
      host = (scripted [] ((declaration None None allow.Present) ∷ []));
      first = [];
      second = [];
      opening = lend 128 16 64;
      calls = ((lend 128 16 64, run false) ∷ []);
      check = (passes (Some 2));
      answers = ((ran (told 13 (name (place Rule 0 1)) 1 1) 1 [] []) ∷ []);
    }
    ∷  -- allow-is-told-what-is-constant
    record {
      image = (82 ∷ 72 ∷ 83 ∷ 1 ∷ 0 ∷ 0 ∷ 1 ∷ 0 ∷ 2 ∷ 0 ∷ 2 ∷ 0 ∷ 9 ∷ 0 ∷ 0 ∷ 0 ∷ 2 ∷ 0 ∷ 4 ∷ 1 ∷ 1 ∷ 0 ∷ 1 ∷ 0 ∷ 0 ∷ 0 ∷ 0 ∷ 0 ∷ 0 ∷ 0 ∷ 0 ∷ 0 ∷ 1 ∷ 0 ∷ 0 ∷ 0 ∷ 0 ∷ 0 ∷ 4 ∷ 0 ∷ 2 ∷ 0 ∷ 1 ∷ 0 ∷ 1 ∷ 0 ∷ 0 ∷ 0 ∷ 0 ∷ 0 ∷ 1 ∷ 0 ∷ 1 ∷ 0 ∷ 0 ∷ 0 ∷ 0 ∷ 0 ∷ 1 ∷ 0 ∷ 1 ∷ 0 ∷ 5 ∷ 0 ∷ 0 ∷ 0 ∷ 1 ∷ 0 ∷ 2 ∷ 0 ∷ 5 ∷ 0 ∷ 0 ∷ 0 ∷ 97 ∷ 98 ∷ 99 ∷ 100 ∷ 101 ∷ 102 ∷ 97 ∷ 98 ∷ 99 ∷ []);
      text = (97 ∷ 98 ∷ 99 ∷ 113 ∷ []);
      operations = 100;
      names = 10;
      modules = 0;
      host = (scripted [] ((declaration None None allow.Constant) ∷ []));
      first = [];
      second = [];
      opening = lend 128 16 64;
      calls = ((lend 128 16 64, run false) ∷ []);
      check = (passes (Some 4));
      answers = ((ran (told 13 (name (place Rule 1 1)) 2 1) 3 ((variable (place Rule 0 1) ConstantAccess v.Unit) ∷ []) []) ∷ []);
    }
    ∷  -- allow-comes-before-the-limit
    record {
      image = (82 ∷ 72 ∷ 83 ∷ 1 ∷ 0 ∷ 0 ∷ 1 ∷ 0 ∷ 1 ∷ 0 ∷ 1 ∷ 0 ∷ 9 ∷ 0 ∷ 0 ∷ 0 ∷ 1 ∷ 0 ∷ 4 ∷ 0 ∷ 1 ∷ 0 ∷ 1 ∷ 0 ∷ 0 ∷ 0 ∷ 0 ∷ 0 ∷ 0 ∷ 0 ∷ 0 ∷ 0 ∷ 1 ∷ 0 ∷ 0 ∷ 0 ∷ 0 ∷ 0 ∷ 0 ∷ 0 ∷ 1 ∷ 0 ∷ 5 ∷ 0 ∷ 0 ∷ 0 ∷ 97 ∷ 98 ∷ 99 ∷ 100 ∷ 101 ∷ 102 ∷ 97 ∷ 98 ∷ 99 ∷ []);
      text = (97 ∷ 98 ∷ 99 ∷ 113 ∷ []);
      operations = 100;
      names = 1;
      modules = 0;
      host = (scripted [] ((declaration (Some (Append (place Site 0 1) (v.Number (pos 1)))) None allow.No) ∷ []));
      first = [];
      second = [];
      opening = lend 128 16 64;
      calls = ((lend 128 16 64, run false) ∷ []);
      check = (passes (Some 2));
      answers = ((ran (told 13 (name (place Rule 0 1)) 1 1) 1 ((variable (place Site 0 1) ReadWrite (v.Number (pos 1))) ∷ []) []) ∷ []);
    }
    ∷  -- allow-reaches-the-limit
    record {
      image = (82 ∷ 72 ∷ 83 ∷ 1 ∷ 0 ∷ 0 ∷ 1 ∷ 0 ∷ 1 ∷ 0 ∷ 1 ∷ 0 ∷ 9 ∷ 0 ∷ 0 ∷ 0 ∷ 1 ∷ 0 ∷ 4 ∷ 0 ∷ 1 ∷ 0 ∷ 1 ∷ 0 ∷ 0 ∷ 0 ∷ 0 ∷ 0 ∷ 0 ∷ 0 ∷ 0 ∷ 0 ∷ 1 ∷ 0 ∷ 0 ∷ 0 ∷ 0 ∷ 0 ∷ 0 ∷ 0 ∷ 1 ∷ 0 ∷ 5 ∷ 0 ∷ 0 ∷ 0 ∷ 97 ∷ 98 ∷ 99 ∷ 100 ∷ 101 ∷ 102 ∷ 97 ∷ 98 ∷ 99 ∷ []);
      text = (97 ∷ 98 ∷ 99 ∷ 113 ∷ []);
      operations = 100;
      names = 1;
      modules = 0;
      host = (scripted [] ((declaration (Some (Append (place Site 0 1) (v.Number (pos 1)))) None allow.Yes) ∷ []));
      first = [];
      second = [];
      opening = lend 128 16 64;
      calls = ((lend 128 16 64, run false) ∷ []);
      check = (passes (Some 2));
      answers = ((ran (told 14 nothing 1 1) 1 ((variable (place Site 0 1) ReadWrite (v.Number (pos 1))) ∷ []) []) ∷ []);
    }
    ∷  -- appending-stops-at-the-limit
    record {
      image = (82 ∷ 72 ∷ 83 ∷ 1 ∷ 0 ∷ 0 ∷ 1 ∷ 0 ∷ 1 ∷ 0 ∷ 1 ∷ 0 ∷ 9 ∷ 0 ∷ 0 ∷ 0 ∷ 1 ∷ 0 ∷ 1 ∷ 0 ∷ 1 ∷ 0 ∷ 1 ∷ 0 ∷ 0 ∷ 0 ∷ 0 ∷ 0 ∷ 0 ∷ 0 ∷ 0 ∷ 0 ∷ 0 ∷ 0 ∷ 0 ∷ 0 ∷ 0 ∷ 0 ∷ 0 ∷ 0 ∷ 1 ∷ 0 ∷ 5 ∷ 0 ∷ 0 ∷ 0 ∷ 97 ∷ 98 ∷ 99 ∷ 100 ∷ 101 ∷ 102 ∷ 97 ∷ 98 ∷ 99 ∷ []);
      text = (97 ∷ 98 ∷ 99 ∷ 113 ∷ []);
      operations = 100;
      names = 1;
      modules = 0;
      host = (scripted ((evaluation (Some (Append (place Site 0 1) (v.Number (pos 1)))) (Some (Append (place Site 1 1) (v.Number (pos 2)))) eval.Names) ∷ []) []);
      first = [];
      second = [];
      opening = lend 128 16 64;
      calls = ((lend 128 16 64, run false) ∷ []);
      check = (passes (Some 2));
      answers = ((ran (told 0 (value (v.Number (pos 1))) 0 0) 2 ((variable (place Site 0 1) ReadWrite (v.Number (pos 1))) ∷ []) []) ∷ []);
    }
    ∷  -- effects-in-their-order
    record {
      image = (82 ∷ 72 ∷ 83 ∷ 1 ∷ 0 ∷ 0 ∷ 1 ∷ 0 ∷ 2 ∷ 0 ∷ 2 ∷ 0 ∷ 9 ∷ 0 ∷ 0 ∷ 0 ∷ 2 ∷ 0 ∷ 1 ∷ 0 ∷ 1 ∷ 0 ∷ 1 ∷ 0 ∷ 0 ∷ 0 ∷ 0 ∷ 0 ∷ 0 ∷ 0 ∷ 0 ∷ 0 ∷ 0 ∷ 0 ∷ 0 ∷ 0 ∷ 0 ∷ 0 ∷ 4 ∷ 0 ∷ 2 ∷ 0 ∷ 1 ∷ 0 ∷ 1 ∷ 0 ∷ 0 ∷ 0 ∷ 0 ∷ 0 ∷ 0 ∷ 0 ∷ 1 ∷ 0 ∷ 0 ∷ 0 ∷ 0 ∷ 0 ∷ 0 ∷ 0 ∷ 1 ∷ 0 ∷ 5 ∷ 0 ∷ 0 ∷ 0 ∷ 0 ∷ 0 ∷ 2 ∷ 0 ∷ 5 ∷ 0 ∷ 0 ∷ 0 ∷ 97 ∷ 98 ∷ 99 ∷ 100 ∷ 101 ∷ 102 ∷ 97 ∷ 98 ∷ 99 ∷ []);
      text = (97 ∷ 98 ∷ 99 ∷ 113 ∷ []);
      operations = 100;
      names = 10;
      modules = 0;
      host = (scripted ((evaluation (Some (Append (place Site 3 1) (v.Number (pos 1)))) (Some (Set 1 (v.Number (pos 2)))) (eval.Row 1)) ∷ []) ((declaration (Some (Set 1 (v.Number (pos 4)))) (Some (Append (place Site 0 1) (v.Number (pos 5)))) allow.Yes) ∷ []));
      first = [];
      second = [];
      opening = lend 128 16 64;
      calls = ((lend 128 16 64, run false) ∷ []);
      check = (passes (Some 4));
      answers = ((ran (told 0 (value v.Unit) 0 0) 4 ((variable (place Site 3 1) ReadWrite (v.Number (pos 4))) ∷ (variable (place Site 0 1) ReadWrite (v.Number (pos 5))) ∷ (variable (place Site 3 1) ReadWrite (v.Number (pos 2))) ∷ (variable (place Rule 0 1) ReadWrite (v.Number (pos 2))) ∷ []) []) ∷ []);
    }
    ∷  -- assignment-to-no-name
    record {
      image = (82 ∷ 72 ∷ 83 ∷ 1 ∷ 0 ∷ 0 ∷ 1 ∷ 0 ∷ 1 ∷ 0 ∷ 1 ∷ 0 ∷ 9 ∷ 0 ∷ 0 ∷ 0 ∷ 1 ∷ 0 ∷ 3 ∷ 0 ∷ 1 ∷ 0 ∷ 1 ∷ 0 ∷ 0 ∷ 0 ∷ 0 ∷ 0 ∷ 0 ∷ 0 ∷ 0 ∷ 0 ∷ 1 ∷ 0 ∷ 0 ∷ 0 ∷ 0 ∷ 0 ∷ 0 ∷ 0 ∷ 1 ∷ 0 ∷ 5 ∷ 0 ∷ 0 ∷ 0 ∷ 97 ∷ 98 ∷ 99 ∷ 100 ∷ 101 ∷ 102 ∷ 97 ∷ 98 ∷ 99 ∷ []);
      text = (97 ∷ 98 ∷ 99 ∷ 113 ∷ []);
      operations = 100;
      names = 10;
      modules = 0;
      host = (scripted [] []);
      first = [];
      second = [];
      opening = lend 128 16 64;
      calls = ((lend 128 16 64, run false) ∷ []);
      check = (passes (Some 3));
      answers = ((ran (told 17 (name (place Rule 0 1)) 1 1) 3 [] []) ∷ []);
    }
    ∷  -- assignment-to-a-constant-of-another-name
    record {
      image = (82 ∷ 72 ∷ 83 ∷ 1 ∷ 0 ∷ 0 ∷ 1 ∷ 0 ∷ 2 ∷ 0 ∷ 2 ∷ 0 ∷ 9 ∷ 0 ∷ 0 ∷ 0 ∷ 2 ∷ 0 ∷ 4 ∷ 1 ∷ 1 ∷ 0 ∷ 1 ∷ 0 ∷ 0 ∷ 0 ∷ 0 ∷ 0 ∷ 0 ∷ 0 ∷ 1 ∷ 0 ∷ 1 ∷ 0 ∷ 0 ∷ 0 ∷ 0 ∷ 0 ∷ 3 ∷ 0 ∷ 2 ∷ 0 ∷ 1 ∷ 0 ∷ 1 ∷ 0 ∷ 0 ∷ 0 ∷ 0 ∷ 0 ∷ 0 ∷ 0 ∷ 1 ∷ 0 ∷ 1 ∷ 0 ∷ 0 ∷ 0 ∷ 0 ∷ 0 ∷ 1 ∷ 0 ∷ 5 ∷ 0 ∷ 0 ∷ 0 ∷ 0 ∷ 0 ∷ 2 ∷ 0 ∷ 5 ∷ 0 ∷ 0 ∷ 0 ∷ 97 ∷ 98 ∷ 99 ∷ 100 ∷ 101 ∷ 102 ∷ 97 ∷ 98 ∷ 99 ∷ []);
      text = (97 ∷ 98 ∷ 99 ∷ 113 ∷ []);
      operations = 100;
      names = 10;
      modules = 0;
      host = (scripted [] []);
      first = [];
      second = [];
      opening = lend 128 16 64;
      calls = ((lend 128 16 64, run false) ∷ []);
      check = (passes (Some 5));
      answers = ((ran (told 19 (name (place Rule 0 1)) 2 1) 5 ((variable (place Rule 1 1) ConstantAccess v.Unit) ∷ []) []) ∷ []);
    }
    ∷  -- assignment-beyond-the-names
    record {
      image = (82 ∷ 72 ∷ 83 ∷ 1 ∷ 0 ∷ 0 ∷ 2 ∷ 0 ∷ 2 ∷ 0 ∷ 1 ∷ 0 ∷ 9 ∷ 0 ∷ 0 ∷ 0 ∷ 1 ∷ 0 ∷ 1 ∷ 0 ∷ 1 ∷ 0 ∷ 11 ∷ 0 ∷ 1 ∷ 0 ∷ 1 ∷ 0 ∷ 0 ∷ 0 ∷ 1 ∷ 0 ∷ 255 ∷ 255 ∷ 0 ∷ 0 ∷ 0 ∷ 0 ∷ 0 ∷ 0 ∷ 0 ∷ 0 ∷ 3 ∷ 0 ∷ 2 ∷ 0 ∷ 1 ∷ 0 ∷ 0 ∷ 0 ∷ 0 ∷ 0 ∷ 0 ∷ 0 ∷ 0 ∷ 0 ∷ 1 ∷ 0 ∷ 1 ∷ 0 ∷ 0 ∷ 0 ∷ 0 ∷ 0 ∷ 2 ∷ 0 ∷ 5 ∷ 0 ∷ 0 ∷ 0 ∷ 97 ∷ 98 ∷ 99 ∷ 100 ∷ 101 ∷ 102 ∷ 97 ∷ 98 ∷ 99 ∷ []);
      text = (97 ∷ 98 ∷ 99 ∷ 113 ∷ []);
      operations = 100;
      names = 10;
      modules = 0;
      host = (scripted [] []);
      first = [];
      second = [];
      opening = lend 128 16 64;
      calls = ((lend 128 16 64, run false) ∷ []);
      check = (passes (Some 4));
      answers = ((ran (told 18 nothing 2 1) 4 [] []) ∷ []);
    }
    ∷  -- assignment-to-a-site-name
    record {
      image = (82 ∷ 72 ∷ 83 ∷ 1 ∷ 0 ∷ 0 ∷ 1 ∷ 0 ∷ 1 ∷ 0 ∷ 1 ∷ 0 ∷ 9 ∷ 0 ∷ 0 ∷ 0 ∷ 1 ∷ 0 ∷ 3 ∷ 0 ∷ 1 ∷ 0 ∷ 1 ∷ 0 ∷ 0 ∷ 0 ∷ 0 ∷ 0 ∷ 0 ∷ 0 ∷ 0 ∷ 0 ∷ 1 ∷ 0 ∷ 0 ∷ 0 ∷ 0 ∷ 0 ∷ 0 ∷ 0 ∷ 1 ∷ 0 ∷ 5 ∷ 0 ∷ 0 ∷ 0 ∷ 97 ∷ 98 ∷ 99 ∷ 100 ∷ 101 ∷ 102 ∷ 97 ∷ 98 ∷ 99 ∷ []);
      text = (97 ∷ 98 ∷ 99 ∷ 113 ∷ []);
      operations = 100;
      names = 10;
      modules = 0;
      host = (scripted ((evaluation None None (eval.Value (v.Number (pos 3)))) ∷ []) []);
      first = [];
      second = [];
      opening = lend 128 16 64;
      calls = ((lend 128 16 64, put 0 1 (v.Number (pos 1))) ∷ (lend 128 16 64, run false) ∷ (lend 128 16 64, read 0 1) ∷ []);
      check = (passes (Some 3));
      answers = (made ∷ (ran (told 0 (value v.Unit) 0 0) 3 ((variable (place Site 0 1) ReadWrite (v.Number (pos 3))) ∷ []) []) ∷ (got (Some (v.Number (pos 3)))) ∷ []);
    }
    ∷  -- assignment-to-the-last-of-two-names
    record {
      image = (82 ∷ 72 ∷ 83 ∷ 1 ∷ 0 ∷ 0 ∷ 1 ∷ 0 ∷ 2 ∷ 0 ∷ 2 ∷ 0 ∷ 9 ∷ 0 ∷ 0 ∷ 0 ∷ 2 ∷ 0 ∷ 4 ∷ 0 ∷ 1 ∷ 0 ∷ 1 ∷ 0 ∷ 0 ∷ 0 ∷ 0 ∷ 0 ∷ 0 ∷ 0 ∷ 0 ∷ 0 ∷ 1 ∷ 0 ∷ 0 ∷ 0 ∷ 0 ∷ 0 ∷ 3 ∷ 0 ∷ 2 ∷ 0 ∷ 1 ∷ 0 ∷ 1 ∷ 0 ∷ 0 ∷ 0 ∷ 0 ∷ 0 ∷ 0 ∷ 0 ∷ 1 ∷ 0 ∷ 0 ∷ 0 ∷ 0 ∷ 0 ∷ 0 ∷ 0 ∷ 1 ∷ 0 ∷ 5 ∷ 0 ∷ 0 ∷ 0 ∷ 0 ∷ 0 ∷ 2 ∷ 0 ∷ 5 ∷ 0 ∷ 0 ∷ 0 ∷ 97 ∷ 98 ∷ 99 ∷ 100 ∷ 101 ∷ 102 ∷ 97 ∷ 98 ∷ 99 ∷ []);
      text = (97 ∷ 98 ∷ 99 ∷ 113 ∷ []);
      operations = 100;
      names = 10;
      modules = 0;
      host = (scripted ((evaluation None None (eval.Value (v.Number (pos 2)))) ∷ (evaluation None None (eval.Value (v.Number (pos 3)))) ∷ []) []);
      first = [];
      second = [];
      opening = lend 128 16 64;
      calls = ((lend 128 16 64, put 0 1 (v.Number (pos 1))) ∷ (lend 128 16 64, run false) ∷ (lend 128 16 64, read 0 1) ∷ []);
      check = (passes (Some 5));
      answers = (made ∷ (ran (told 0 (value v.Unit) 0 0) 5 ((variable (place Site 0 1) ReadWrite (v.Number (pos 1))) ∷ (variable (place Rule 0 1) ReadWrite (v.Number (pos 3))) ∷ []) []) ∷ (got (Some (v.Number (pos 3)))) ∷ []);
    }
    ∷  -- third-charge-of-an-assignment
    record {
      image = (82 ∷ 72 ∷ 83 ∷ 1 ∷ 0 ∷ 0 ∷ 1 ∷ 0 ∷ 1 ∷ 0 ∷ 1 ∷ 0 ∷ 9 ∷ 0 ∷ 0 ∷ 0 ∷ 1 ∷ 0 ∷ 3 ∷ 0 ∷ 1 ∷ 0 ∷ 1 ∷ 0 ∷ 0 ∷ 0 ∷ 0 ∷ 0 ∷ 0 ∷ 0 ∷ 0 ∷ 0 ∷ 1 ∷ 0 ∷ 0 ∷ 0 ∷ 0 ∷ 0 ∷ 0 ∷ 0 ∷ 1 ∷ 0 ∷ 5 ∷ 0 ∷ 0 ∷ 0 ∷ 97 ∷ 98 ∷ 99 ∷ 100 ∷ 101 ∷ 102 ∷ 97 ∷ 98 ∷ 99 ∷ []);
      text = (97 ∷ 98 ∷ 99 ∷ 113 ∷ []);
      operations = 2;
      names = 10;
      modules = 0;
      host = (scripted [] []);
      first = [];
      second = [];
      opening = lend 128 16 64;
      calls = ((lend 128 16 64, put 0 1 (v.Number (pos 1))) ∷ (lend 128 16 64, run false) ∷ []);
      check = (passes (Some 3));
      answers = (made ∷ (ran (told 12 nothing 1 1) 3 ((variable (place Site 0 1) ReadWrite (v.Number (pos 1))) ∷ []) []) ∷ []);
    }
    ∷  -- apply-comes-first
    record {
      image = (82 ∷ 72 ∷ 83 ∷ 1 ∷ 0 ∷ 0 ∷ 1 ∷ 0 ∷ 2 ∷ 0 ∷ 2 ∷ 0 ∷ 9 ∷ 0 ∷ 0 ∷ 0 ∷ 2 ∷ 0 ∷ 4 ∷ 0 ∷ 1 ∷ 0 ∷ 1 ∷ 0 ∷ 0 ∷ 0 ∷ 0 ∷ 0 ∷ 0 ∷ 0 ∷ 0 ∷ 0 ∷ 1 ∷ 0 ∷ 0 ∷ 0 ∷ 0 ∷ 0 ∷ 3 ∷ 0 ∷ 2 ∷ 0 ∷ 1 ∷ 0 ∷ 1 ∷ 0 ∷ 0 ∷ 0 ∷ 2 ∷ 0 ∷ 0 ∷ 0 ∷ 1 ∷ 0 ∷ 0 ∷ 0 ∷ 0 ∷ 0 ∷ 0 ∷ 0 ∷ 1 ∷ 0 ∷ 5 ∷ 0 ∷ 0 ∷ 0 ∷ 0 ∷ 0 ∷ 2 ∷ 0 ∷ 5 ∷ 0 ∷ 0 ∷ 0 ∷ 97 ∷ 98 ∷ 99 ∷ 100 ∷ 101 ∷ 102 ∷ 97 ∷ 98 ∷ 99 ∷ []);
      text = (97 ∷ 98 ∷ 99 ∷ 113 ∷ []);
      operations = 100;
      names = 10;
      modules = 0;
      host = (scripted ((evaluation None None (eval.Value (v.Number (pos 1)))) ∷ (evaluation None None (eval.Value (v.Number (pos 2)))) ∷ []) []);
      first = [];
      second = [];
      opening = lend 128 16 64;
      calls = ((lend 128 16 64, run false) ∷ []);
      check = (passes (Some 5));
      answers = ((ran (told 0 (value v.Unit) 0 0) 5 ((variable (place Rule 0 1) ReadWrite (v.Number (pos 2))) ∷ []) []) ∷ []);
    }
    ∷  -- binary-for-what-apply-does-not-know
    record {
      image = (82 ∷ 72 ∷ 83 ∷ 1 ∷ 0 ∷ 0 ∷ 1 ∷ 0 ∷ 2 ∷ 0 ∷ 2 ∷ 0 ∷ 9 ∷ 0 ∷ 0 ∷ 0 ∷ 2 ∷ 0 ∷ 4 ∷ 0 ∷ 1 ∷ 0 ∷ 1 ∷ 0 ∷ 0 ∷ 0 ∷ 0 ∷ 0 ∷ 0 ∷ 0 ∷ 0 ∷ 0 ∷ 1 ∷ 0 ∷ 0 ∷ 0 ∷ 0 ∷ 0 ∷ 3 ∷ 0 ∷ 2 ∷ 0 ∷ 1 ∷ 0 ∷ 1 ∷ 0 ∷ 0 ∷ 0 ∷ 7 ∷ 0 ∷ 0 ∷ 0 ∷ 1 ∷ 0 ∷ 0 ∷ 0 ∷ 0 ∷ 0 ∷ 0 ∷ 0 ∷ 1 ∷ 0 ∷ 5 ∷ 0 ∷ 0 ∷ 0 ∷ 0 ∷ 0 ∷ 2 ∷ 0 ∷ 5 ∷ 0 ∷ 0 ∷ 0 ∷ 97 ∷ 98 ∷ 99 ∷ 100 ∷ 101 ∷ 102 ∷ 97 ∷ 98 ∷ 99 ∷ []);
      text = (97 ∷ 98 ∷ 99 ∷ 113 ∷ []);
      operations = 100;
      names = 10;
      modules = 0;
      host = (scripted ((evaluation None None (eval.Value (v.Number (pos 1)))) ∷ (evaluation None None (eval.Value (v.Number (pos 2)))) ∷ []) []);
      first = [];
      second = [];
      opening = lend 128 16 64;
      calls = ((lend 128 16 64, run false) ∷ []);
      check = (passes (Some 5));
      answers = ((ran (told 0 (value v.Unit) 0 0) 5 ((variable (place Rule 0 1) ReadWrite (v.Number (pos 2))) ∷ []) []) ∷ []);
    }
    ∷  -- operators-that-keep-the-old-value
    record {
      image = (82 ∷ 72 ∷ 83 ∷ 1 ∷ 0 ∷ 0 ∷ 1 ∷ 0 ∷ 4 ∷ 0 ∷ 4 ∷ 0 ∷ 9 ∷ 0 ∷ 0 ∷ 0 ∷ 4 ∷ 0 ∷ 4 ∷ 0 ∷ 1 ∷ 0 ∷ 1 ∷ 0 ∷ 0 ∷ 0 ∷ 0 ∷ 0 ∷ 0 ∷ 0 ∷ 0 ∷ 0 ∷ 1 ∷ 0 ∷ 0 ∷ 0 ∷ 0 ∷ 0 ∷ 3 ∷ 0 ∷ 2 ∷ 0 ∷ 1 ∷ 0 ∷ 1 ∷ 0 ∷ 0 ∷ 0 ∷ 1 ∷ 0 ∷ 0 ∷ 0 ∷ 1 ∷ 0 ∷ 0 ∷ 0 ∷ 0 ∷ 0 ∷ 4 ∷ 0 ∷ 3 ∷ 0 ∷ 1 ∷ 0 ∷ 2 ∷ 0 ∷ 0 ∷ 0 ∷ 0 ∷ 0 ∷ 1 ∷ 0 ∷ 1 ∷ 0 ∷ 0 ∷ 0 ∷ 0 ∷ 0 ∷ 3 ∷ 0 ∷ 4 ∷ 0 ∷ 1 ∷ 0 ∷ 3 ∷ 0 ∷ 0 ∷ 0 ∷ 6 ∷ 0 ∷ 1 ∷ 0 ∷ 1 ∷ 0 ∷ 0 ∷ 0 ∷ 0 ∷ 0 ∷ 0 ∷ 0 ∷ 1 ∷ 0 ∷ 5 ∷ 0 ∷ 0 ∷ 0 ∷ 0 ∷ 0 ∷ 2 ∷ 0 ∷ 5 ∷ 0 ∷ 0 ∷ 0 ∷ 0 ∷ 0 ∷ 3 ∷ 0 ∷ 5 ∷ 0 ∷ 0 ∷ 0 ∷ 0 ∷ 0 ∷ 4 ∷ 0 ∷ 5 ∷ 0 ∷ 0 ∷ 0 ∷ 97 ∷ 98 ∷ 99 ∷ 100 ∷ 101 ∷ 102 ∷ 97 ∷ 98 ∷ 99 ∷ []);
      text = (97 ∷ 98 ∷ 99 ∷ 113 ∷ []);
      operations = 100;
      names = 10;
      modules = 0;
      host = (scripted ((evaluation None None (eval.Value (v.Number (pos 1)))) ∷ (evaluation None None (eval.Value (v.Number (pos 2)))) ∷ []) []);
      first = [];
      second = [];
      opening = lend 128 16 64;
      calls = ((lend 128 16 64, run false) ∷ []);
      check = (passes (Some 10));
      answers = ((ran (told 0 (value v.Unit) 0 0) 10 ((variable (place Rule 0 1) ReadWrite (v.Number (pos 1))) ∷ (variable (place Rule 1 1) ReadWrite (v.Number (pos 1))) ∷ []) []) ∷ []);
    }
    ∷  -- operator-that-nobody-knows
    record {
      image = (82 ∷ 72 ∷ 83 ∷ 1 ∷ 0 ∷ 0 ∷ 1 ∷ 0 ∷ 2 ∷ 0 ∷ 2 ∷ 0 ∷ 9 ∷ 0 ∷ 0 ∷ 0 ∷ 2 ∷ 0 ∷ 4 ∷ 0 ∷ 1 ∷ 0 ∷ 1 ∷ 0 ∷ 0 ∷ 0 ∷ 0 ∷ 0 ∷ 0 ∷ 0 ∷ 0 ∷ 0 ∷ 1 ∷ 0 ∷ 0 ∷ 0 ∷ 0 ∷ 0 ∷ 3 ∷ 0 ∷ 2 ∷ 0 ∷ 1 ∷ 0 ∷ 1 ∷ 0 ∷ 0 ∷ 0 ∷ 255 ∷ 255 ∷ 0 ∷ 0 ∷ 1 ∷ 0 ∷ 0 ∷ 0 ∷ 0 ∷ 0 ∷ 0 ∷ 0 ∷ 1 ∷ 0 ∷ 5 ∷ 0 ∷ 0 ∷ 0 ∷ 0 ∷ 0 ∷ 2 ∷ 0 ∷ 5 ∷ 0 ∷ 0 ∷ 0 ∷ 97 ∷ 98 ∷ 99 ∷ 100 ∷ 101 ∷ 102 ∷ 97 ∷ 98 ∷ 99 ∷ []);
      text = (97 ∷ 98 ∷ 99 ∷ 113 ∷ []);
      operations = 100;
      names = 10;
      modules = 0;
      host = (scripted [] []);
      first = [];
      second = [];
      opening = lend 128 16 64;
      calls = ((lend 128 16 64, run false) ∷ []);
      check = (passes (Some 5));
      answers = ((ran (told 20 (operator 65535) 2 1) 5 ((variable (place Rule 0 1) ReadWrite v.Unit) ∷ []) []) ∷ []);
    }
    ∷  -- operator-on-a-constant
    record {
      image = (82 ∷ 72 ∷ 83 ∷ 1 ∷ 0 ∷ 0 ∷ 1 ∷ 0 ∷ 2 ∷ 0 ∷ 2 ∷ 0 ∷ 9 ∷ 0 ∷ 0 ∷ 0 ∷ 2 ∷ 0 ∷ 4 ∷ 1 ∷ 1 ∷ 0 ∷ 1 ∷ 0 ∷ 0 ∷ 0 ∷ 0 ∷ 0 ∷ 0 ∷ 0 ∷ 0 ∷ 0 ∷ 1 ∷ 0 ∷ 0 ∷ 0 ∷ 0 ∷ 0 ∷ 3 ∷ 0 ∷ 2 ∷ 0 ∷ 1 ∷ 0 ∷ 1 ∷ 0 ∷ 0 ∷ 0 ∷ 7 ∷ 0 ∷ 0 ∷ 0 ∷ 1 ∷ 0 ∷ 0 ∷ 0 ∷ 0 ∷ 0 ∷ 0 ∷ 0 ∷ 1 ∷ 0 ∷ 5 ∷ 0 ∷ 0 ∷ 0 ∷ 0 ∷ 0 ∷ 2 ∷ 0 ∷ 5 ∷ 0 ∷ 0 ∷ 0 ∷ 97 ∷ 98 ∷ 99 ∷ 100 ∷ 101 ∷ 102 ∷ 97 ∷ 98 ∷ 99 ∷ []);
      text = (97 ∷ 98 ∷ 99 ∷ 113 ∷ []);
      operations = 100;
      names = 10;
      modules = 0;
      host = (scripted [] []);
      first = [];
      second = [];
      opening = lend 128 16 64;
      calls = ((lend 128 16 64, run false) ∷ []);
      check = (passes (Some 5));
      answers = ((ran (told 19 (name (place Rule 0 1)) 2 1) 5 ((variable (place Rule 0 1) ConstantAccess v.Unit) ∷ []) []) ∷ []);
    }
    ∷  -- apply-faults-without-position
    record {
      image = (82 ∷ 72 ∷ 83 ∷ 1 ∷ 0 ∷ 0 ∷ 1 ∷ 0 ∷ 2 ∷ 0 ∷ 2 ∷ 0 ∷ 9 ∷ 0 ∷ 0 ∷ 0 ∷ 2 ∷ 0 ∷ 4 ∷ 0 ∷ 1 ∷ 0 ∷ 1 ∷ 0 ∷ 0 ∷ 0 ∷ 0 ∷ 0 ∷ 0 ∷ 0 ∷ 0 ∷ 0 ∷ 1 ∷ 0 ∷ 0 ∷ 0 ∷ 0 ∷ 0 ∷ 3 ∷ 0 ∷ 2 ∷ 0 ∷ 1 ∷ 0 ∷ 1 ∷ 0 ∷ 0 ∷ 0 ∷ 3 ∷ 0 ∷ 0 ∷ 0 ∷ 1 ∷ 0 ∷ 0 ∷ 0 ∷ 0 ∷ 0 ∷ 0 ∷ 0 ∷ 1 ∷ 0 ∷ 5 ∷ 0 ∷ 0 ∷ 0 ∷ 0 ∷ 0 ∷ 2 ∷ 0 ∷ 5 ∷ 0 ∷ 0 ∷ 0 ∷ 97 ∷ 98 ∷ 99 ∷ 100 ∷ 101 ∷ 102 ∷ 97 ∷ 98 ∷ 99 ∷ []);
      text = (97 ∷ 98 ∷ 99 ∷ 113 ∷ []);
      operations = 100;
      names = 10;
      modules = 0;
      host = (scripted [] []);
      first = [];
      second = [];
      opening = lend 128 16 64;
      calls = ((lend 128 16 64, run false) ∷ []);
      check = (passes (Some 5));
      answers = ((ran (told 25 (code 41) 2 1) 5 ((variable (place Rule 0 1) ReadWrite v.Unit) ∷ []) []) ∷ []);
    }
    ∷  -- apply-faults-with-position
    record {
      image = (82 ∷ 72 ∷ 83 ∷ 1 ∷ 0 ∷ 0 ∷ 1 ∷ 0 ∷ 2 ∷ 0 ∷ 2 ∷ 0 ∷ 9 ∷ 0 ∷ 0 ∷ 0 ∷ 2 ∷ 0 ∷ 4 ∷ 0 ∷ 1 ∷ 0 ∷ 1 ∷ 0 ∷ 0 ∷ 0 ∷ 0 ∷ 0 ∷ 0 ∷ 0 ∷ 0 ∷ 0 ∷ 1 ∷ 0 ∷ 0 ∷ 0 ∷ 0 ∷ 0 ∷ 3 ∷ 0 ∷ 2 ∷ 0 ∷ 1 ∷ 0 ∷ 1 ∷ 0 ∷ 0 ∷ 0 ∷ 4 ∷ 0 ∷ 0 ∷ 0 ∷ 1 ∷ 0 ∷ 0 ∷ 0 ∷ 0 ∷ 0 ∷ 0 ∷ 0 ∷ 1 ∷ 0 ∷ 5 ∷ 0 ∷ 0 ∷ 0 ∷ 0 ∷ 0 ∷ 2 ∷ 0 ∷ 5 ∷ 0 ∷ 0 ∷ 0 ∷ 97 ∷ 98 ∷ 99 ∷ 100 ∷ 101 ∷ 102 ∷ 97 ∷ 98 ∷ 99 ∷ []);
      text = (97 ∷ 98 ∷ 99 ∷ 113 ∷ []);
      operations = 100;
      names = 10;
      modules = 0;
      host = (scripted [] []);
      first = [];
      second = [];
      opening = lend 128 16 64;
      calls = ((lend 128 16 64, run false) ∷ []);
      check = (passes (Some 5));
      answers = ((ran (told 25 (code 42) 80 81) 5 ((variable (place Rule 0 1) ReadWrite v.Unit) ∷ []) []) ∷ []);
    }
    ∷  -- apply-faults-and-cannot-be-caught
    record {
      image = (82 ∷ 72 ∷ 83 ∷ 1 ∷ 0 ∷ 0 ∷ 2 ∷ 0 ∷ 3 ∷ 0 ∷ 2 ∷ 0 ∷ 9 ∷ 0 ∷ 0 ∷ 0 ∷ 2 ∷ 0 ∷ 2 ∷ 0 ∷ 1 ∷ 0 ∷ 4 ∷ 0 ∷ 1 ∷ 0 ∷ 1 ∷ 0 ∷ 0 ∷ 0 ∷ 0 ∷ 0 ∷ 0 ∷ 0 ∷ 0 ∷ 0 ∷ 1 ∷ 0 ∷ 0 ∷ 0 ∷ 0 ∷ 0 ∷ 11 ∷ 0 ∷ 2 ∷ 0 ∷ 1 ∷ 0 ∷ 0 ∷ 0 ∷ 1 ∷ 0 ∷ 255 ∷ 255 ∷ 0 ∷ 0 ∷ 0 ∷ 0 ∷ 0 ∷ 0 ∷ 0 ∷ 0 ∷ 3 ∷ 0 ∷ 3 ∷ 0 ∷ 1 ∷ 0 ∷ 1 ∷ 0 ∷ 0 ∷ 0 ∷ 5 ∷ 0 ∷ 0 ∷ 0 ∷ 1 ∷ 0 ∷ 0 ∷ 0 ∷ 0 ∷ 0 ∷ 0 ∷ 0 ∷ 1 ∷ 0 ∷ 5 ∷ 0 ∷ 0 ∷ 0 ∷ 0 ∷ 0 ∷ 3 ∷ 0 ∷ 5 ∷ 0 ∷ 0 ∷ 0 ∷ 97 ∷ 98 ∷ 99 ∷ 100 ∷ 101 ∷ 102 ∷ 97 ∷ 98 ∷ 99 ∷ []);
      text = (97 ∷ 98 ∷ 99 ∷ 113 ∷ []);
      operations = 100;
      names = 10;
      modules = 0;
      host = (scripted [] []);
      first = [];
      second = [];
      opening = lend 128 16 64;
      calls = ((lend 128 16 64, run false) ∷ []);
      check = (passes (Some 6));
      answers = ((ran (told 25 (code 43) 3 1) 6 ((variable (place Rule 0 1) ReadWrite v.Unit) ∷ []) []) ∷ []);
    }
    ∷  -- binary-faults-without-position
    record {
      image = (82 ∷ 72 ∷ 83 ∷ 1 ∷ 0 ∷ 0 ∷ 1 ∷ 0 ∷ 2 ∷ 0 ∷ 2 ∷ 0 ∷ 9 ∷ 0 ∷ 0 ∷ 0 ∷ 2 ∷ 0 ∷ 4 ∷ 0 ∷ 1 ∷ 0 ∷ 1 ∷ 0 ∷ 0 ∷ 0 ∷ 0 ∷ 0 ∷ 0 ∷ 0 ∷ 0 ∷ 0 ∷ 1 ∷ 0 ∷ 0 ∷ 0 ∷ 0 ∷ 0 ∷ 3 ∷ 0 ∷ 2 ∷ 0 ∷ 1 ∷ 0 ∷ 1 ∷ 0 ∷ 0 ∷ 0 ∷ 8 ∷ 0 ∷ 0 ∷ 0 ∷ 1 ∷ 0 ∷ 0 ∷ 0 ∷ 0 ∷ 0 ∷ 0 ∷ 0 ∷ 1 ∷ 0 ∷ 5 ∷ 0 ∷ 0 ∷ 0 ∷ 0 ∷ 0 ∷ 2 ∷ 0 ∷ 5 ∷ 0 ∷ 0 ∷ 0 ∷ 97 ∷ 98 ∷ 99 ∷ 100 ∷ 101 ∷ 102 ∷ 97 ∷ 98 ∷ 99 ∷ []);
      text = (97 ∷ 98 ∷ 99 ∷ 113 ∷ []);
      operations = 100;
      names = 10;
      modules = 0;
      host = (scripted [] []);
      first = [];
      second = [];
      opening = lend 128 16 64;
      calls = ((lend 128 16 64, run false) ∷ []);
      check = (passes (Some 5));
      answers = ((ran (told 25 (code 51) 2 1) 5 ((variable (place Rule 0 1) ReadWrite v.Unit) ∷ []) []) ∷ []);
    }
    ∷  -- binary-faults-with-position
    record {
      image = (82 ∷ 72 ∷ 83 ∷ 1 ∷ 0 ∷ 0 ∷ 1 ∷ 0 ∷ 2 ∷ 0 ∷ 2 ∷ 0 ∷ 9 ∷ 0 ∷ 0 ∷ 0 ∷ 2 ∷ 0 ∷ 4 ∷ 0 ∷ 1 ∷ 0 ∷ 1 ∷ 0 ∷ 0 ∷ 0 ∷ 0 ∷ 0 ∷ 0 ∷ 0 ∷ 0 ∷ 0 ∷ 1 ∷ 0 ∷ 0 ∷ 0 ∷ 0 ∷ 0 ∷ 3 ∷ 0 ∷ 2 ∷ 0 ∷ 1 ∷ 0 ∷ 1 ∷ 0 ∷ 0 ∷ 0 ∷ 9 ∷ 0 ∷ 0 ∷ 0 ∷ 1 ∷ 0 ∷ 0 ∷ 0 ∷ 0 ∷ 0 ∷ 0 ∷ 0 ∷ 1 ∷ 0 ∷ 5 ∷ 0 ∷ 0 ∷ 0 ∷ 0 ∷ 0 ∷ 2 ∷ 0 ∷ 5 ∷ 0 ∷ 0 ∷ 0 ∷ 97 ∷ 98 ∷ 99 ∷ 100 ∷ 101 ∷ 102 ∷ 97 ∷ 98 ∷ 99 ∷ []);
      text = (97 ∷ 98 ∷ 99 ∷ 113 ∷ []);
      operations = 100;
      names = 10;
      modules = 0;
      host = (scripted [] []);
      first = [];
      second = [];
      opening = lend 128 16 64;
      calls = ((lend 128 16 64, run false) ∷ []);
      check = (passes (Some 5));
      answers = ((ran (told 25 (code 52) 82 83) 5 ((variable (place Rule 0 1) ReadWrite v.Unit) ∷ []) []) ∷ []);
    }
    ∷  -- operator-sees-what-evaluate-changed
    record {
      image = (82 ∷ 72 ∷ 83 ∷ 1 ∷ 0 ∷ 0 ∷ 1 ∷ 0 ∷ 2 ∷ 0 ∷ 2 ∷ 0 ∷ 9 ∷ 0 ∷ 0 ∷ 0 ∷ 2 ∷ 0 ∷ 4 ∷ 0 ∷ 1 ∷ 0 ∷ 1 ∷ 0 ∷ 0 ∷ 0 ∷ 0 ∷ 0 ∷ 0 ∷ 0 ∷ 0 ∷ 0 ∷ 1 ∷ 0 ∷ 0 ∷ 0 ∷ 0 ∷ 0 ∷ 3 ∷ 0 ∷ 2 ∷ 0 ∷ 1 ∷ 0 ∷ 1 ∷ 0 ∷ 0 ∷ 0 ∷ 1 ∷ 0 ∷ 0 ∷ 0 ∷ 1 ∷ 0 ∷ 0 ∷ 0 ∷ 0 ∷ 0 ∷ 0 ∷ 0 ∷ 1 ∷ 0 ∷ 5 ∷ 0 ∷ 0 ∷ 0 ∷ 0 ∷ 0 ∷ 2 ∷ 0 ∷ 5 ∷ 0 ∷ 0 ∷ 0 ∷ 97 ∷ 98 ∷ 99 ∷ 100 ∷ 101 ∷ 102 ∷ 97 ∷ 98 ∷ 99 ∷ []);
      text = (97 ∷ 98 ∷ 99 ∷ 113 ∷ []);
      operations = 100;
      names = 10;
      modules = 0;
      host = (scripted ((evaluation None None (eval.Value (v.Number (pos 1)))) ∷ (evaluation (Some (Set 1 (v.Number (pos 6)))) None (eval.Value (v.Number (pos 2)))) ∷ []) []);
      first = [];
      second = [];
      opening = lend 128 16 64;
      calls = ((lend 128 16 64, run false) ∷ []);
      check = (passes (Some 5));
      answers = ((ran (told 0 (value v.Unit) 0 0) 5 ((variable (place Rule 0 1) ReadWrite (v.Number (pos 6))) ∷ []) []) ∷ []);
    }
    ∷  -- site-operator-on-a-truth
    record {
      image = (82 ∷ 72 ∷ 83 ∷ 1 ∷ 0 ∷ 0 ∷ 1 ∷ 0 ∷ 2 ∷ 0 ∷ 2 ∷ 0 ∷ 9 ∷ 0 ∷ 0 ∷ 0 ∷ 2 ∷ 0 ∷ 4 ∷ 0 ∷ 1 ∷ 0 ∷ 1 ∷ 0 ∷ 0 ∷ 0 ∷ 0 ∷ 0 ∷ 0 ∷ 0 ∷ 0 ∷ 0 ∷ 1 ∷ 0 ∷ 0 ∷ 0 ∷ 0 ∷ 0 ∷ 3 ∷ 0 ∷ 2 ∷ 0 ∷ 1 ∷ 0 ∷ 1 ∷ 0 ∷ 0 ∷ 0 ∷ 1 ∷ 0 ∷ 0 ∷ 0 ∷ 1 ∷ 0 ∷ 0 ∷ 0 ∷ 0 ∷ 0 ∷ 3 ∷ 0 ∷ 1 ∷ 0 ∷ 5 ∷ 0 ∷ 0 ∷ 0 ∷ 0 ∷ 0 ∷ 2 ∷ 0 ∷ 5 ∷ 0 ∷ 0 ∷ 0 ∷ 97 ∷ 98 ∷ 99 ∷ 100 ∷ 101 ∷ 102 ∷ 97 ∷ 98 ∷ 99 ∷ []);
      text = (97 ∷ 98 ∷ 99 ∷ 113 ∷ []);
      operations = 100;
      names = 10;
      modules = 0;
      host = (site ((Operand (Constant (w.Number (pos 1)))) ∷ []));
      first = [];
      second = [];
      opening = lend 128 16 64;
      calls = ((lend 128 16 64, run false) ∷ []);
      check = (passes (Some 5));
      answers = ((ran (told 25 (code 3) 2 1) 5 ((variable (place Rule 0 1) ReadWrite (v.Truth true)) ∷ []) []) ∷ []);
    }
    ∷  -- site-operator-overflows
    record {
      image = (82 ∷ 72 ∷ 83 ∷ 1 ∷ 0 ∷ 0 ∷ 1 ∷ 0 ∷ 2 ∷ 0 ∷ 2 ∷ 0 ∷ 9 ∷ 0 ∷ 0 ∷ 0 ∷ 2 ∷ 0 ∷ 4 ∷ 0 ∷ 1 ∷ 0 ∷ 1 ∷ 0 ∷ 0 ∷ 0 ∷ 0 ∷ 0 ∷ 0 ∷ 0 ∷ 0 ∷ 0 ∷ 1 ∷ 0 ∷ 0 ∷ 0 ∷ 0 ∷ 0 ∷ 3 ∷ 0 ∷ 2 ∷ 0 ∷ 1 ∷ 0 ∷ 1 ∷ 0 ∷ 0 ∷ 0 ∷ 2 ∷ 0 ∷ 0 ∷ 0 ∷ 1 ∷ 0 ∷ 0 ∷ 0 ∷ 0 ∷ 0 ∷ 0 ∷ 0 ∷ 1 ∷ 0 ∷ 5 ∷ 0 ∷ 0 ∷ 0 ∷ 0 ∷ 0 ∷ 2 ∷ 0 ∷ 5 ∷ 0 ∷ 1 ∷ 0 ∷ 97 ∷ 98 ∷ 99 ∷ 100 ∷ 101 ∷ 102 ∷ 97 ∷ 98 ∷ 99 ∷ []);
      text = (97 ∷ 98 ∷ 99 ∷ 113 ∷ []);
      operations = 100;
      names = 10;
      modules = 0;
      host = (site ((Operand (Constant (w.Number (negsuc 9223372036854775807)))) ∷ (Operand (Constant (w.Number (pos 1)))) ∷ []));
      first = [];
      second = [];
      opening = lend 128 16 64;
      calls = ((lend 128 16 64, run false) ∷ []);
      check = (passes (Some 5));
      answers = ((ran (told 25 (code 1) 2 1) 5 ((variable (place Rule 0 1) ReadWrite (v.Number (negsuc 9223372036854775807))) ∷ []) []) ∷ []);
    }
    ∷  -- name-appended-by-its-own-expression
    record {
      image = (82 ∷ 72 ∷ 83 ∷ 1 ∷ 0 ∷ 0 ∷ 1 ∷ 0 ∷ 2 ∷ 0 ∷ 2 ∷ 0 ∷ 9 ∷ 0 ∷ 0 ∷ 0 ∷ 2 ∷ 0 ∷ 4 ∷ 0 ∷ 1 ∷ 0 ∷ 1 ∷ 0 ∷ 0 ∷ 0 ∷ 0 ∷ 0 ∷ 0 ∷ 0 ∷ 0 ∷ 0 ∷ 1 ∷ 0 ∷ 0 ∷ 0 ∷ 0 ∷ 0 ∷ 3 ∷ 0 ∷ 2 ∷ 0 ∷ 1 ∷ 0 ∷ 1 ∷ 0 ∷ 0 ∷ 0 ∷ 0 ∷ 0 ∷ 0 ∷ 0 ∷ 1 ∷ 0 ∷ 1 ∷ 0 ∷ 0 ∷ 0 ∷ 0 ∷ 0 ∷ 1 ∷ 0 ∷ 5 ∷ 0 ∷ 0 ∷ 0 ∷ 0 ∷ 0 ∷ 2 ∷ 0 ∷ 5 ∷ 0 ∷ 0 ∷ 0 ∷ 97 ∷ 98 ∷ 99 ∷ 100 ∷ 101 ∷ 102 ∷ 97 ∷ 98 ∷ 99 ∷ []);
      text = (97 ∷ 98 ∷ 99 ∷ 113 ∷ []);
      operations = 50;
      names = 10;
      modules = 0;
      host = (scripted ((evaluation None None (eval.Value (v.Number (pos 1)))) ∷ (evaluation (Some (Append (place Site 3 1) (v.Number (pos 5)))) None (eval.Value (v.Number (pos 9)))) ∷ []) []);
      first = [];
      second = [];
      opening = lend 128 16 64;
      calls = ((lend 128 16 64, run false) ∷ []);
      check = (passes (Some 5));
      answers = ((ran (told 0 (value v.Unit) 0 0) 5 ((variable (place Rule 0 1) ReadWrite (v.Number (pos 9))) ∷ (variable (place Site 3 1) ReadWrite (v.Number (pos 5))) ∷ []) []) ∷ []);
    }
    ∷  -- mark-goes-with-its-block
    record {
      image = (82 ∷ 72 ∷ 83 ∷ 1 ∷ 0 ∷ 0 ∷ 2 ∷ 0 ∷ 5 ∷ 0 ∷ 4 ∷ 0 ∷ 9 ∷ 0 ∷ 0 ∷ 0 ∷ 4 ∷ 0 ∷ 4 ∷ 0 ∷ 1 ∷ 0 ∷ 4 ∷ 0 ∷ 1 ∷ 0 ∷ 1 ∷ 0 ∷ 0 ∷ 0 ∷ 0 ∷ 0 ∷ 0 ∷ 0 ∷ 0 ∷ 0 ∷ 1 ∷ 0 ∷ 0 ∷ 0 ∷ 0 ∷ 0 ∷ 2 ∷ 0 ∷ 2 ∷ 0 ∷ 1 ∷ 0 ∷ 0 ∷ 0 ∷ 1 ∷ 0 ∷ 0 ∷ 0 ∷ 0 ∷ 0 ∷ 0 ∷ 0 ∷ 0 ∷ 0 ∷ 0 ∷ 0 ∷ 3 ∷ 0 ∷ 3 ∷ 0 ∷ 1 ∷ 0 ∷ 1 ∷ 0 ∷ 0 ∷ 0 ∷ 0 ∷ 0 ∷ 0 ∷ 0 ∷ 1 ∷ 0 ∷ 1 ∷ 0 ∷ 0 ∷ 0 ∷ 1 ∷ 0 ∷ 4 ∷ 0 ∷ 1 ∷ 0 ∷ 2 ∷ 0 ∷ 0 ∷ 0 ∷ 0 ∷ 0 ∷ 0 ∷ 0 ∷ 0 ∷ 0 ∷ 0 ∷ 0 ∷ 0 ∷ 0 ∷ 1 ∷ 0 ∷ 5 ∷ 0 ∷ 1 ∷ 0 ∷ 3 ∷ 0 ∷ 0 ∷ 0 ∷ 0 ∷ 0 ∷ 0 ∷ 0 ∷ 0 ∷ 0 ∷ 0 ∷ 0 ∷ 0 ∷ 0 ∷ 0 ∷ 0 ∷ 1 ∷ 0 ∷ 5 ∷ 0 ∷ 0 ∷ 0 ∷ 0 ∷ 0 ∷ 3 ∷ 0 ∷ 5 ∷ 0 ∷ 0 ∷ 0 ∷ 0 ∷ 0 ∷ 4 ∷ 0 ∷ 5 ∷ 0 ∷ 0 ∷ 0 ∷ 0 ∷ 0 ∷ 5 ∷ 0 ∷ 5 ∷ 0 ∷ 0 ∷ 0 ∷ 97 ∷ 98 ∷ 99 ∷ 100 ∷ 101 ∷ 102 ∷ 97 ∷ 98 ∷ 99 ∷ []);
      text = (97 ∷ 98 ∷ 99 ∷ 113 ∷ []);
      operations = 50;
      names = 10;
      modules = 0;
      host = (scripted ((evaluation None None (eval.Value (v.Number (pos 1)))) ∷ (evaluation (Some (Append (place Site 3 1) (v.Number (pos 5)))) None (eval.Value (v.Number (pos 2)))) ∷ (evaluation None None (eval.Value (v.Number (pos 3)))) ∷ (evaluation None None eval.Mark) ∷ []) []);
      first = [];
      second = [];
      opening = lend 128 16 64;
      calls = ((lend 128 16 64, run false) ∷ []);
      check = (passes (Some 10));
      answers = ((ran (told 0 (value (v.Truth false)) 0 0) 10 ((variable (place Rule 0 1) ReadWrite (v.Number (pos 3))) ∷ []) []) ∷ []);
    }
    ∷  -- mark-stays-in-inner-blocks
    record {
      image = (82 ∷ 72 ∷ 83 ∷ 1 ∷ 0 ∷ 0 ∷ 2 ∷ 0 ∷ 4 ∷ 0 ∷ 3 ∷ 0 ∷ 9 ∷ 0 ∷ 0 ∷ 0 ∷ 3 ∷ 0 ∷ 3 ∷ 0 ∷ 1 ∷ 0 ∷ 4 ∷ 0 ∷ 1 ∷ 0 ∷ 1 ∷ 0 ∷ 0 ∷ 0 ∷ 0 ∷ 0 ∷ 0 ∷ 0 ∷ 0 ∷ 0 ∷ 1 ∷ 0 ∷ 0 ∷ 0 ∷ 0 ∷ 0 ∷ 1 ∷ 0 ∷ 2 ∷ 0 ∷ 1 ∷ 0 ∷ 1 ∷ 0 ∷ 0 ∷ 0 ∷ 0 ∷ 0 ∷ 0 ∷ 0 ∷ 0 ∷ 0 ∷ 0 ∷ 0 ∷ 0 ∷ 0 ∷ 2 ∷ 0 ∷ 3 ∷ 0 ∷ 1 ∷ 0 ∷ 0 ∷ 0 ∷ 1 ∷ 0 ∷ 0 ∷ 0 ∷ 0 ∷ 0 ∷ 0 ∷ 0 ∷ 0 ∷ 0 ∷ 0 ∷ 0 ∷ 3 ∷ 0 ∷ 4 ∷ 0 ∷ 1 ∷ 0 ∷ 2 ∷ 0 ∷ 0 ∷ 0 ∷ 0 ∷ 0 ∷ 1 ∷ 0 ∷ 1 ∷ 0 ∷ 2 ∷ 0 ∷ 0 ∷ 0 ∷ 0 ∷ 0 ∷ 1 ∷ 0 ∷ 5 ∷ 0 ∷ 0 ∷ 0 ∷ 0 ∷ 0 ∷ 2 ∷ 0 ∷ 5 ∷ 0 ∷ 0 ∷ 0 ∷ 0 ∷ 0 ∷ 4 ∷ 0 ∷ 5 ∷ 0 ∷ 0 ∷ 0 ∷ 97 ∷ 98 ∷ 99 ∷ 100 ∷ 101 ∷ 102 ∷ 97 ∷ 98 ∷ 99 ∷ []);
      text = (97 ∷ 98 ∷ 99 ∷ 113 ∷ []);
      operations = 50;
      names = 10;
      modules = 0;
      host = (scripted ((evaluation None None (eval.Value (v.Number (pos 1)))) ∷ (evaluation (Some (Append (place Site 1 1) (v.Number (pos 5)))) None (eval.Value (v.Number (pos 2)))) ∷ (evaluation None None (eval.Value (v.Number (pos 3)))) ∷ []) []);
      first = [];
      second = [];
      opening = lend 128 16 64;
      calls = ((lend 128 16 64, run false) ∷ []);
      check = (passes (Some 8));
      answers = ((ran (told 0 (value v.Unit) 0 0) 8 ((variable (place Rule 0 1) ReadWrite (v.Number (pos 1))) ∷ (variable (place Site 1 1) ReadWrite (v.Number (pos 3))) ∷ []) []) ∷ []);
    }
    ∷  -- mark-is-off-in-the-next-run
    record {
      image = (82 ∷ 72 ∷ 83 ∷ 1 ∷ 0 ∷ 0 ∷ 2 ∷ 0 ∷ 2 ∷ 0 ∷ 2 ∷ 0 ∷ 9 ∷ 0 ∷ 0 ∷ 0 ∷ 1 ∷ 0 ∷ 1 ∷ 0 ∷ 1 ∷ 0 ∷ 5 ∷ 0 ∷ 1 ∷ 0 ∷ 1 ∷ 0 ∷ 0 ∷ 0 ∷ 1 ∷ 0 ∷ 255 ∷ 255 ∷ 0 ∷ 0 ∷ 0 ∷ 0 ∷ 0 ∷ 0 ∷ 0 ∷ 0 ∷ 3 ∷ 0 ∷ 2 ∷ 0 ∷ 1 ∷ 0 ∷ 1 ∷ 0 ∷ 0 ∷ 0 ∷ 0 ∷ 0 ∷ 0 ∷ 0 ∷ 1 ∷ 0 ∷ 1 ∷ 0 ∷ 0 ∷ 0 ∷ 0 ∷ 0 ∷ 1 ∷ 0 ∷ 5 ∷ 0 ∷ 0 ∷ 0 ∷ 0 ∷ 0 ∷ 2 ∷ 0 ∷ 5 ∷ 0 ∷ 0 ∷ 0 ∷ 97 ∷ 98 ∷ 99 ∷ 100 ∷ 101 ∷ 102 ∷ 97 ∷ 98 ∷ 99 ∷ []);
      text = (97 ∷ 98 ∷ 99 ∷ 113 ∷ []);
      operations = 50;
      names = 10;
      modules = 0;
      host = (scripted ((evaluation (Some (Append (place Site 3 1) (v.Number (pos 5)))) None (eval.Value (v.Truth false))) ∷ (evaluation None None (eval.Value (v.Truth true))) ∷ (evaluation None None (eval.Value (v.Number (pos 4)))) ∷ []) []);
      first = [];
      second = [];
      opening = lend 128 16 64;
      calls = ((lend 128 16 64, run false) ∷ (lend 128 16 64, run false) ∷ []);
      check = (passes (Some 5));
      answers = ((ran (told 0 (value v.Unit) 0 0) 2 ((variable (place Site 3 1) ReadWrite (v.Number (pos 5))) ∷ []) []) ∷ (ran (told 0 (value v.Unit) 0 0) 5 ((variable (place Site 3 1) ReadWrite (v.Number (pos 4))) ∷ []) []) ∷ []);
    }
    ∷  -- catch-and-for-names-leave-the-mark-off
    record {
      image = (82 ∷ 72 ∷ 83 ∷ 1 ∷ 0 ∷ 0 ∷ 4 ∷ 0 ∷ 5 ∷ 0 ∷ 3 ∷ 0 ∷ 9 ∷ 0 ∷ 0 ∷ 0 ∷ 1 ∷ 0 ∷ 1 ∷ 0 ∷ 1 ∷ 0 ∷ 2 ∷ 0 ∷ 1 ∷ 0 ∷ 3 ∷ 0 ∷ 2 ∷ 0 ∷ 9 ∷ 0 ∷ 1 ∷ 0 ∷ 1 ∷ 0 ∷ 0 ∷ 0 ∷ 1 ∷ 0 ∷ 0 ∷ 0 ∷ 0 ∷ 0 ∷ 1 ∷ 0 ∷ 0 ∷ 0 ∷ 0 ∷ 0 ∷ 11 ∷ 0 ∷ 2 ∷ 0 ∷ 1 ∷ 0 ∷ 0 ∷ 0 ∷ 2 ∷ 0 ∷ 3 ∷ 0 ∷ 4 ∷ 0 ∷ 1 ∷ 0 ∷ 0 ∷ 0 ∷ 0 ∷ 0 ∷ 12 ∷ 8 ∷ 3 ∷ 0 ∷ 1 ∷ 0 ∷ 255 ∷ 255 ∷ 0 ∷ 0 ∷ 0 ∷ 0 ∷ 0 ∷ 0 ∷ 0 ∷ 0 ∷ 0 ∷ 0 ∷ 0 ∷ 0 ∷ 3 ∷ 0 ∷ 4 ∷ 0 ∷ 1 ∷ 0 ∷ 1 ∷ 0 ∷ 0 ∷ 0 ∷ 0 ∷ 0 ∷ 1 ∷ 0 ∷ 1 ∷ 0 ∷ 2 ∷ 0 ∷ 0 ∷ 0 ∷ 1 ∷ 0 ∷ 5 ∷ 0 ∷ 1 ∷ 0 ∷ 2 ∷ 0 ∷ 0 ∷ 0 ∷ 0 ∷ 0 ∷ 0 ∷ 0 ∷ 0 ∷ 0 ∷ 0 ∷ 0 ∷ 0 ∷ 0 ∷ 0 ∷ 0 ∷ 1 ∷ 0 ∷ 5 ∷ 0 ∷ 0 ∷ 0 ∷ 0 ∷ 0 ∷ 4 ∷ 0 ∷ 5 ∷ 0 ∷ 0 ∷ 0 ∷ 0 ∷ 0 ∷ 5 ∷ 0 ∷ 5 ∷ 0 ∷ 0 ∷ 0 ∷ 97 ∷ 98 ∷ 99 ∷ 100 ∷ 101 ∷ 102 ∷ 97 ∷ 98 ∷ 99 ∷ []);
      text = (97 ∷ 98 ∷ 99 ∷ 113 ∷ []);
      operations = 50;
      names = 10;
      modules = 0;
      host = (scripted ((evaluation None None (eval.Value (v.Range (pos 0) (pos 1)))) ∷ (evaluation None None (eval.Value (v.Number (pos 3)))) ∷ (evaluation None None (eval.Row 2)) ∷ []) []);
      first = [];
      second = [];
      opening = lend 128 16 64;
      calls = ((lend 128 16 64, run false) ∷ []);
      check = (passes None);
      answers = ((ran (told 0 (value v.Unit) 0 0) 9 [] []) ∷ []);
    }
    ∷  -- evaluate-faults-but-appends
    record {
      image = (82 ∷ 72 ∷ 83 ∷ 1 ∷ 0 ∷ 0 ∷ 2 ∷ 0 ∷ 5 ∷ 0 ∷ 3 ∷ 0 ∷ 9 ∷ 0 ∷ 0 ∷ 0 ∷ 4 ∷ 0 ∷ 4 ∷ 0 ∷ 1 ∷ 0 ∷ 4 ∷ 0 ∷ 1 ∷ 0 ∷ 1 ∷ 0 ∷ 0 ∷ 0 ∷ 0 ∷ 0 ∷ 0 ∷ 0 ∷ 0 ∷ 0 ∷ 1 ∷ 0 ∷ 0 ∷ 0 ∷ 0 ∷ 0 ∷ 11 ∷ 0 ∷ 2 ∷ 0 ∷ 1 ∷ 0 ∷ 0 ∷ 0 ∷ 1 ∷ 0 ∷ 255 ∷ 255 ∷ 0 ∷ 0 ∷ 0 ∷ 0 ∷ 0 ∷ 0 ∷ 0 ∷ 0 ∷ 1 ∷ 0 ∷ 3 ∷ 0 ∷ 1 ∷ 0 ∷ 1 ∷ 0 ∷ 0 ∷ 0 ∷ 0 ∷ 0 ∷ 0 ∷ 0 ∷ 0 ∷ 0 ∷ 0 ∷ 0 ∷ 0 ∷ 0 ∷ 3 ∷ 0 ∷ 4 ∷ 0 ∷ 1 ∷ 0 ∷ 2 ∷ 0 ∷ 0 ∷ 0 ∷ 0 ∷ 0 ∷ 0 ∷ 0 ∷ 1 ∷ 0 ∷ 1 ∷ 0 ∷ 0 ∷ 0 ∷ 0 ∷ 0 ∷ 5 ∷ 0 ∷ 1 ∷ 0 ∷ 0 ∷ 0 ∷ 0 ∷ 0 ∷ 0 ∷ 0 ∷ 0 ∷ 0 ∷ 0 ∷ 0 ∷ 0 ∷ 0 ∷ 0 ∷ 0 ∷ 0 ∷ 0 ∷ 1 ∷ 0 ∷ 5 ∷ 0 ∷ 0 ∷ 0 ∷ 0 ∷ 0 ∷ 3 ∷ 0 ∷ 5 ∷ 0 ∷ 0 ∷ 0 ∷ 0 ∷ 0 ∷ 4 ∷ 0 ∷ 5 ∷ 0 ∷ 0 ∷ 0 ∷ 97 ∷ 98 ∷ 99 ∷ 100 ∷ 101 ∷ 102 ∷ 97 ∷ 98 ∷ 99 ∷ []);
      text = (97 ∷ 98 ∷ 99 ∷ 113 ∷ []);
      operations = 50;
      names = 10;
      modules = 0;
      host = (scripted ((evaluation None None (eval.Value (v.Number (pos 1)))) ∷ (evaluation (Some (Append (place Site 3 1) (v.Number (pos 5)))) None (eval.Fault (fault 1 0 0 true))) ∷ (evaluation None None (eval.Value (v.Number (pos 2)))) ∷ []) []);
      first = [];
      second = [];
      opening = lend 128 16 64;
      calls = ((lend 128 16 64, run false) ∷ (lend 128 16 64, run false) ∷ []);
      check = (passes (Some 9));
      answers = ((ran (told 25 (code 1) 3 5) 6 ((variable (place Rule 0 1) ReadWrite (v.Number (pos 1))) ∷ (variable (place Site 3 1) ReadWrite (v.Number (pos 5))) ∷ []) []) ∷ (ran (told 25 (code 1) 4 5) 8 ((variable (place Rule 0 1) ReadWrite (v.Number (pos 1))) ∷ (variable (place Site 3 1) ReadWrite (v.Number (pos 5))) ∷ (variable (place Rule 0 1) ReadWrite (v.Number (pos 2))) ∷ (variable (place Site 3 1) ReadWrite (v.Number (pos 5))) ∷ []) []) ∷ []);
    }
    ∷  -- host-changes-a-constant
    record {
      image = (82 ∷ 72 ∷ 83 ∷ 1 ∷ 0 ∷ 0 ∷ 1 ∷ 0 ∷ 3 ∷ 0 ∷ 3 ∷ 0 ∷ 9 ∷ 0 ∷ 0 ∷ 0 ∷ 3 ∷ 0 ∷ 4 ∷ 1 ∷ 1 ∷ 0 ∷ 1 ∷ 0 ∷ 0 ∷ 0 ∷ 0 ∷ 0 ∷ 0 ∷ 0 ∷ 0 ∷ 0 ∷ 1 ∷ 0 ∷ 0 ∷ 0 ∷ 0 ∷ 0 ∷ 1 ∷ 0 ∷ 2 ∷ 0 ∷ 1 ∷ 0 ∷ 1 ∷ 0 ∷ 0 ∷ 0 ∷ 0 ∷ 0 ∷ 0 ∷ 0 ∷ 0 ∷ 0 ∷ 0 ∷ 0 ∷ 0 ∷ 0 ∷ 3 ∷ 0 ∷ 3 ∷ 0 ∷ 1 ∷ 0 ∷ 2 ∷ 0 ∷ 0 ∷ 0 ∷ 0 ∷ 0 ∷ 0 ∷ 0 ∷ 1 ∷ 0 ∷ 0 ∷ 0 ∷ 0 ∷ 0 ∷ 0 ∷ 0 ∷ 1 ∷ 0 ∷ 5 ∷ 0 ∷ 0 ∷ 0 ∷ 0 ∷ 0 ∷ 2 ∷ 0 ∷ 5 ∷ 0 ∷ 0 ∷ 0 ∷ 0 ∷ 0 ∷ 3 ∷ 0 ∷ 5 ∷ 0 ∷ 0 ∷ 0 ∷ 97 ∷ 98 ∷ 99 ∷ 100 ∷ 101 ∷ 102 ∷ 97 ∷ 98 ∷ 99 ∷ []);
      text = (97 ∷ 98 ∷ 99 ∷ 113 ∷ []);
      operations = 50;
      names = 10;
      modules = 0;
      host = (scripted ((evaluation None None (eval.Value (v.Number (pos 1)))) ∷ (evaluation (Some (Set 1 (v.Number (pos 5)))) None (eval.Value (v.Number (pos 2)))) ∷ []) []);
      first = [];
      second = [];
      opening = lend 128 16 64;
      calls = ((lend 128 16 64, run false) ∷ []);
      check = (passes (Some 7));
      answers = ((ran (told 19 (name (place Rule 0 1)) 3 1) 7 ((variable (place Rule 0 1) ConstantAccess (v.Number (pos 5))) ∷ []) []) ∷ []);
    }
    ∷  -- block-gives-its-value
    record {
      image = (82 ∷ 72 ∷ 83 ∷ 1 ∷ 0 ∷ 0 ∷ 2 ∷ 0 ∷ 2 ∷ 0 ∷ 1 ∷ 0 ∷ 9 ∷ 0 ∷ 0 ∷ 0 ∷ 1 ∷ 0 ∷ 1 ∷ 0 ∷ 1 ∷ 0 ∷ 2 ∷ 0 ∷ 1 ∷ 0 ∷ 1 ∷ 0 ∷ 0 ∷ 0 ∷ 1 ∷ 0 ∷ 0 ∷ 0 ∷ 0 ∷ 0 ∷ 0 ∷ 0 ∷ 0 ∷ 0 ∷ 0 ∷ 0 ∷ 1 ∷ 0 ∷ 2 ∷ 0 ∷ 1 ∷ 0 ∷ 0 ∷ 0 ∷ 0 ∷ 0 ∷ 0 ∷ 0 ∷ 0 ∷ 0 ∷ 0 ∷ 0 ∷ 0 ∷ 0 ∷ 0 ∷ 0 ∷ 0 ∷ 0 ∷ 2 ∷ 0 ∷ 5 ∷ 0 ∷ 0 ∷ 0 ∷ 97 ∷ 98 ∷ 99 ∷ 100 ∷ 101 ∷ 102 ∷ 97 ∷ 98 ∷ 99 ∷ []);
      text = (97 ∷ 98 ∷ 99 ∷ 113 ∷ []);
      operations = 50;
      names = 10;
      modules = 0;
      host = (scripted ((evaluation None None (eval.Value (v.Number (pos 3)))) ∷ []) []);
      first = [];
      second = [];
      opening = lend 128 16 64;
      calls = ((lend 128 16 64, run false) ∷ []);
      check = (passes (Some 3));
      answers = ((ran (told 0 (value (v.Number (pos 3))) 0 0) 3 [] []) ∷ []);
    }
    ∷  -- empty-block-gives-unit
    record {
      image = (82 ∷ 72 ∷ 83 ∷ 1 ∷ 0 ∷ 0 ∷ 1 ∷ 0 ∷ 1 ∷ 0 ∷ 0 ∷ 0 ∷ 9 ∷ 0 ∷ 0 ∷ 0 ∷ 1 ∷ 0 ∷ 2 ∷ 0 ∷ 1 ∷ 0 ∷ 1 ∷ 0 ∷ 0 ∷ 0 ∷ 255 ∷ 255 ∷ 0 ∷ 0 ∷ 0 ∷ 0 ∷ 0 ∷ 0 ∷ 0 ∷ 0 ∷ 0 ∷ 0 ∷ 97 ∷ 98 ∷ 99 ∷ 100 ∷ 101 ∷ 102 ∷ 97 ∷ 98 ∷ 99 ∷ []);
      text = (97 ∷ 98 ∷ 99 ∷ 113 ∷ []);
      operations = 50;
      names = 10;
      modules = 0;
      host = (site []);
      first = [];
      second = [];
      opening = lend 128 16 64;
      calls = ((lend 128 16 64, run false) ∷ []);
      check = (passes (Some 1));
      answers = ((ran (told 0 (value v.Unit) 0 0) 1 [] []) ∷ []);
    }
    ∷  -- noop-gives-unit-after-a-value
    record {
      image = (82 ∷ 72 ∷ 83 ∷ 1 ∷ 0 ∷ 0 ∷ 1 ∷ 0 ∷ 2 ∷ 0 ∷ 1 ∷ 0 ∷ 9 ∷ 0 ∷ 0 ∷ 0 ∷ 2 ∷ 0 ∷ 1 ∷ 0 ∷ 1 ∷ 0 ∷ 1 ∷ 0 ∷ 0 ∷ 0 ∷ 0 ∷ 0 ∷ 0 ∷ 0 ∷ 0 ∷ 0 ∷ 0 ∷ 0 ∷ 0 ∷ 0 ∷ 0 ∷ 0 ∷ 0 ∷ 0 ∷ 2 ∷ 0 ∷ 1 ∷ 0 ∷ 0 ∷ 0 ∷ 0 ∷ 0 ∷ 0 ∷ 0 ∷ 0 ∷ 0 ∷ 0 ∷ 0 ∷ 0 ∷ 0 ∷ 0 ∷ 0 ∷ 0 ∷ 0 ∷ 1 ∷ 0 ∷ 5 ∷ 0 ∷ 0 ∷ 0 ∷ 97 ∷ 98 ∷ 99 ∷ 100 ∷ 101 ∷ 102 ∷ 97 ∷ 98 ∷ 99 ∷ []);
      text = (97 ∷ 98 ∷ 99 ∷ 113 ∷ []);
      operations = 50;
      names = 10;
      modules = 0;
      host = (scripted ((evaluation None None (eval.Value (v.Number (pos 3)))) ∷ []) []);
      first = [];
      second = [];
      opening = lend 128 16 64;
      calls = ((lend 128 16 64, run false) ∷ []);
      check = (passes (Some 3));
      answers = ((ran (told 0 (value v.Unit) 0 0) 3 [] []) ∷ []);
    }
    ∷  -- names-of-block-zero-stay-after-a-return
    record {
      image = (82 ∷ 72 ∷ 83 ∷ 1 ∷ 0 ∷ 0 ∷ 1 ∷ 0 ∷ 2 ∷ 0 ∷ 1 ∷ 0 ∷ 9 ∷ 0 ∷ 0 ∷ 0 ∷ 2 ∷ 0 ∷ 4 ∷ 0 ∷ 1 ∷ 0 ∷ 1 ∷ 0 ∷ 0 ∷ 0 ∷ 0 ∷ 0 ∷ 0 ∷ 0 ∷ 0 ∷ 0 ∷ 1 ∷ 0 ∷ 0 ∷ 0 ∷ 0 ∷ 0 ∷ 12 ∷ 0 ∷ 2 ∷ 0 ∷ 1 ∷ 0 ∷ 255 ∷ 255 ∷ 0 ∷ 0 ∷ 0 ∷ 0 ∷ 0 ∷ 0 ∷ 0 ∷ 0 ∷ 0 ∷ 0 ∷ 0 ∷ 0 ∷ 0 ∷ 0 ∷ 1 ∷ 0 ∷ 5 ∷ 0 ∷ 0 ∷ 0 ∷ 97 ∷ 98 ∷ 99 ∷ 100 ∷ 101 ∷ 102 ∷ 97 ∷ 98 ∷ 99 ∷ []);
      text = (97 ∷ 98 ∷ 99 ∷ 113 ∷ []);
      operations = 50;
      names = 10;
      modules = 0;
      host = (scripted ((evaluation None None (eval.Value (v.Number (pos 1)))) ∷ []) []);
      first = [];
      second = [];
      opening = lend 128 16 64;
      calls = ((lend 128 16 64, run false) ∷ []);
      check = (passes (Some 3));
      answers = ((ran (told 0 (value v.Unit) 0 0) 3 ((variable (place Rule 0 1) ReadWrite (v.Number (pos 1))) ∷ []) []) ∷ []);
    }
    ∷  -- imports-of-block-zero-stay-after-a-throw
    record {
      image = (82 ∷ 72 ∷ 83 ∷ 1 ∷ 0 ∷ 0 ∷ 1 ∷ 0 ∷ 2 ∷ 0 ∷ 1 ∷ 0 ∷ 9 ∷ 0 ∷ 0 ∷ 0 ∷ 2 ∷ 0 ∷ 13 ∷ 0 ∷ 1 ∷ 0 ∷ 1 ∷ 0 ∷ 0 ∷ 0 ∷ 0 ∷ 0 ∷ 0 ∷ 0 ∷ 0 ∷ 0 ∷ 1 ∷ 0 ∷ 0 ∷ 0 ∷ 0 ∷ 0 ∷ 12 ∷ 8 ∷ 2 ∷ 0 ∷ 1 ∷ 0 ∷ 255 ∷ 255 ∷ 0 ∷ 0 ∷ 0 ∷ 0 ∷ 0 ∷ 0 ∷ 0 ∷ 0 ∷ 0 ∷ 0 ∷ 0 ∷ 0 ∷ 0 ∷ 0 ∷ 1 ∷ 0 ∷ 5 ∷ 0 ∷ 0 ∷ 0 ∷ 97 ∷ 98 ∷ 99 ∷ 100 ∷ 101 ∷ 102 ∷ 97 ∷ 98 ∷ 99 ∷ []);
      text = (97 ∷ 98 ∷ 99 ∷ 113 ∷ []);
      operations = 50;
      names = 10;
      modules = 1;
      host = (scripted ((evaluation None None (eval.Value (v.Number (pos 1)))) ∷ []) []);
      first = ((row 1 (Ok (Some 7))) ∷ []);
      second = [];
      opening = lend 128 16 64;
      calls = ((lend 128 16 64, run false) ∷ []);
      check = (passes (Some 3));
      answers = ((ran (told 24 (value v.Unit) 2 1) 3 [] ((import (place Rule 0 1) 7) ∷ [])) ∷ []);
    }
    ∷  -- names-of-a-block-go-on-break
    record {
      image = (82 ∷ 72 ∷ 83 ∷ 1 ∷ 0 ∷ 0 ∷ 2 ∷ 0 ∷ 4 ∷ 0 ∷ 3 ∷ 0 ∷ 9 ∷ 0 ∷ 0 ∷ 0 ∷ 2 ∷ 0 ∷ 2 ∷ 0 ∷ 2 ∷ 0 ∷ 7 ∷ 0 ∷ 1 ∷ 0 ∷ 1 ∷ 0 ∷ 0 ∷ 0 ∷ 1 ∷ 0 ∷ 0 ∷ 0 ∷ 0 ∷ 0 ∷ 0 ∷ 0 ∷ 0 ∷ 0 ∷ 0 ∷ 0 ∷ 1 ∷ 0 ∷ 2 ∷ 0 ∷ 1 ∷ 0 ∷ 1 ∷ 0 ∷ 0 ∷ 0 ∷ 0 ∷ 0 ∷ 0 ∷ 0 ∷ 0 ∷ 0 ∷ 0 ∷ 0 ∷ 0 ∷ 0 ∷ 4 ∷ 0 ∷ 3 ∷ 0 ∷ 1 ∷ 0 ∷ 2 ∷ 0 ∷ 0 ∷ 0 ∷ 0 ∷ 0 ∷ 0 ∷ 0 ∷ 1 ∷ 0 ∷ 0 ∷ 0 ∷ 0 ∷ 0 ∷ 10 ∷ 8 ∷ 4 ∷ 0 ∷ 1 ∷ 0 ∷ 255 ∷ 255 ∷ 0 ∷ 0 ∷ 0 ∷ 0 ∷ 0 ∷ 0 ∷ 0 ∷ 0 ∷ 0 ∷ 0 ∷ 0 ∷ 0 ∷ 3 ∷ 0 ∷ 1 ∷ 0 ∷ 5 ∷ 0 ∷ 0 ∷ 0 ∷ 0 ∷ 0 ∷ 2 ∷ 0 ∷ 5 ∷ 0 ∷ 0 ∷ 0 ∷ 0 ∷ 0 ∷ 3 ∷ 0 ∷ 5 ∷ 0 ∷ 0 ∷ 0 ∷ 97 ∷ 98 ∷ 99 ∷ 100 ∷ 101 ∷ 102 ∷ 97 ∷ 98 ∷ 99 ∷ []);
      text = (97 ∷ 98 ∷ 99 ∷ 113 ∷ []);
      operations = 50;
      names = 10;
      modules = 0;
      host = (scripted ((evaluation None None (eval.Value (v.Number (pos 1)))) ∷ (evaluation None None eval.Names) ∷ []) []);
      first = [];
      second = [];
      opening = lend 128 16 64;
      calls = ((lend 128 16 64, run false) ∷ []);
      check = (passes None);
      answers = ((ran (told 0 (value (v.Number (pos 0))) 0 0) 6 [] []) ∷ []);
    }
    ∷  -- names-of-a-block-go-on-continue
    record {
      image = (82 ∷ 72 ∷ 83 ∷ 1 ∷ 0 ∷ 0 ∷ 2 ∷ 0 ∷ 4 ∷ 0 ∷ 3 ∷ 0 ∷ 9 ∷ 0 ∷ 0 ∷ 0 ∷ 2 ∷ 0 ∷ 2 ∷ 0 ∷ 2 ∷ 0 ∷ 7 ∷ 0 ∷ 1 ∷ 0 ∷ 1 ∷ 0 ∷ 0 ∷ 0 ∷ 1 ∷ 0 ∷ 0 ∷ 0 ∷ 0 ∷ 0 ∷ 0 ∷ 0 ∷ 0 ∷ 0 ∷ 0 ∷ 0 ∷ 1 ∷ 0 ∷ 2 ∷ 0 ∷ 1 ∷ 0 ∷ 1 ∷ 0 ∷ 0 ∷ 0 ∷ 0 ∷ 0 ∷ 0 ∷ 0 ∷ 0 ∷ 0 ∷ 0 ∷ 0 ∷ 0 ∷ 0 ∷ 4 ∷ 0 ∷ 3 ∷ 0 ∷ 1 ∷ 0 ∷ 2 ∷ 0 ∷ 0 ∷ 0 ∷ 0 ∷ 0 ∷ 0 ∷ 0 ∷ 1 ∷ 0 ∷ 0 ∷ 0 ∷ 0 ∷ 0 ∷ 10 ∷ 0 ∷ 4 ∷ 0 ∷ 1 ∷ 0 ∷ 255 ∷ 255 ∷ 0 ∷ 0 ∷ 0 ∷ 0 ∷ 0 ∷ 0 ∷ 0 ∷ 0 ∷ 0 ∷ 0 ∷ 0 ∷ 0 ∷ 0 ∷ 0 ∷ 1 ∷ 0 ∷ 5 ∷ 0 ∷ 0 ∷ 0 ∷ 0 ∷ 0 ∷ 2 ∷ 0 ∷ 5 ∷ 0 ∷ 0 ∷ 0 ∷ 0 ∷ 0 ∷ 3 ∷ 0 ∷ 5 ∷ 0 ∷ 0 ∷ 0 ∷ 97 ∷ 98 ∷ 99 ∷ 100 ∷ 101 ∷ 102 ∷ 97 ∷ 98 ∷ 99 ∷ []);
      text = (97 ∷ 98 ∷ 99 ∷ 113 ∷ []);
      operations = 50;
      names = 10;
      modules = 0;
      host = (scripted ((evaluation None None (eval.Value (v.Truth true))) ∷ (evaluation None None (eval.Value (v.Number (pos 1)))) ∷ (evaluation None None (eval.Value (v.Truth false))) ∷ (evaluation None None eval.Names) ∷ []) []);
      first = [];
      second = [];
      opening = lend 128 16 64;
      calls = ((lend 128 16 64, run false) ∷ []);
      check = (passes None);
      answers = ((ran (told 0 (value (v.Number (pos 0))) 0 0) 8 [] []) ∷ []);
    }
    ∷  -- block-of-an-empty-row
    record {
      image = (82 ∷ 72 ∷ 83 ∷ 1 ∷ 0 ∷ 0 ∷ 2 ∷ 0 ∷ 1 ∷ 0 ∷ 0 ∷ 0 ∷ 9 ∷ 0 ∷ 0 ∷ 0 ∷ 1 ∷ 0 ∷ 1 ∷ 0 ∷ 0 ∷ 0 ∷ 2 ∷ 0 ∷ 1 ∷ 0 ∷ 1 ∷ 0 ∷ 0 ∷ 0 ∷ 1 ∷ 0 ∷ 0 ∷ 0 ∷ 0 ∷ 0 ∷ 0 ∷ 0 ∷ 0 ∷ 0 ∷ 0 ∷ 0 ∷ 97 ∷ 98 ∷ 99 ∷ 100 ∷ 101 ∷ 102 ∷ 97 ∷ 98 ∷ 99 ∷ []);
      text = (97 ∷ 98 ∷ 99 ∷ 113 ∷ []);
      operations = 50;
      names = 10;
      modules = 0;
      host = (site []);
      first = [];
      second = [];
      opening = lend 128 16 64;
      calls = ((lend 128 16 64, run false) ∷ []);
      check = (passes (Some 1));
      answers = ((ran (told 0 (value v.Unit) 0 0) 1 [] []) ∷ []);
    }
    ∷  -- if-with-an-empty-row
    record {
      image = (82 ∷ 72 ∷ 83 ∷ 1 ∷ 0 ∷ 0 ∷ 3 ∷ 0 ∷ 2 ∷ 0 ∷ 2 ∷ 0 ∷ 9 ∷ 0 ∷ 0 ∷ 0 ∷ 1 ∷ 0 ∷ 1 ∷ 0 ∷ 0 ∷ 0 ∷ 1 ∷ 0 ∷ 1 ∷ 0 ∷ 5 ∷ 0 ∷ 1 ∷ 0 ∷ 1 ∷ 0 ∷ 0 ∷ 0 ∷ 1 ∷ 0 ∷ 2 ∷ 0 ∷ 0 ∷ 0 ∷ 0 ∷ 0 ∷ 0 ∷ 0 ∷ 0 ∷ 0 ∷ 1 ∷ 0 ∷ 2 ∷ 0 ∷ 1 ∷ 0 ∷ 1 ∷ 0 ∷ 0 ∷ 0 ∷ 0 ∷ 0 ∷ 0 ∷ 0 ∷ 0 ∷ 0 ∷ 0 ∷ 0 ∷ 0 ∷ 0 ∷ 3 ∷ 0 ∷ 1 ∷ 0 ∷ 5 ∷ 0 ∷ 0 ∷ 0 ∷ 0 ∷ 0 ∷ 2 ∷ 0 ∷ 5 ∷ 0 ∷ 0 ∷ 0 ∷ 97 ∷ 98 ∷ 99 ∷ 100 ∷ 101 ∷ 102 ∷ 97 ∷ 98 ∷ 99 ∷ []);
      text = (97 ∷ 98 ∷ 99 ∷ 113 ∷ []);
      operations = 50;
      names = 10;
      modules = 0;
      host = (scripted ((evaluation None None (eval.Value (v.Number (pos 3)))) ∷ []) []);
      first = [];
      second = [];
      opening = lend 128 16 64;
      calls = ((lend 128 16 64, run false) ∷ []);
      check = (passes (Some 4));
      answers = ((ran (told 0 (value v.Unit) 0 0) 2 [] []) ∷ []);
    }
    ∷  -- endless-while-with-an-empty-row
    record {
      image = (82 ∷ 72 ∷ 83 ∷ 1 ∷ 0 ∷ 0 ∷ 2 ∷ 0 ∷ 1 ∷ 0 ∷ 1 ∷ 0 ∷ 9 ∷ 0 ∷ 0 ∷ 0 ∷ 1 ∷ 0 ∷ 1 ∷ 0 ∷ 0 ∷ 0 ∷ 7 ∷ 0 ∷ 1 ∷ 0 ∷ 1 ∷ 0 ∷ 0 ∷ 0 ∷ 1 ∷ 0 ∷ 0 ∷ 0 ∷ 0 ∷ 0 ∷ 0 ∷ 0 ∷ 0 ∷ 0 ∷ 0 ∷ 0 ∷ 3 ∷ 0 ∷ 1 ∷ 0 ∷ 5 ∷ 0 ∷ 0 ∷ 0 ∷ 97 ∷ 98 ∷ 99 ∷ 100 ∷ 101 ∷ 102 ∷ 97 ∷ 98 ∷ 99 ∷ []);
      text = (97 ∷ 98 ∷ 99 ∷ 113 ∷ []);
      operations = 5;
      names = 10;
      modules = 0;
      host = (site []);
      first = [];
      second = [];
      opening = lend 128 16 64;
      calls = ((lend 128 16 64, run false) ∷ []);
      check = (passes None);
      answers = ((ran (told 12 nothing 1 1) 6 [] []) ∷ []);
    }
    ∷  -- for-with-an-empty-row
    record {
      image = (82 ∷ 72 ∷ 83 ∷ 1 ∷ 0 ∷ 0 ∷ 2 ∷ 0 ∷ 1 ∷ 0 ∷ 1 ∷ 0 ∷ 9 ∷ 0 ∷ 0 ∷ 0 ∷ 1 ∷ 0 ∷ 1 ∷ 0 ∷ 0 ∷ 0 ∷ 9 ∷ 0 ∷ 1 ∷ 0 ∷ 1 ∷ 0 ∷ 0 ∷ 0 ∷ 1 ∷ 0 ∷ 0 ∷ 0 ∷ 0 ∷ 0 ∷ 1 ∷ 0 ∷ 0 ∷ 0 ∷ 0 ∷ 0 ∷ 0 ∷ 0 ∷ 1 ∷ 0 ∷ 5 ∷ 0 ∷ 0 ∷ 0 ∷ 97 ∷ 98 ∷ 99 ∷ 100 ∷ 101 ∷ 102 ∷ 97 ∷ 98 ∷ 99 ∷ []);
      text = (97 ∷ 98 ∷ 99 ∷ 113 ∷ []);
      operations = 50;
      names = 10;
      modules = 0;
      host = (scripted ((evaluation None None (eval.Value (v.Seq 2))) ∷ []) []);
      first = [];
      second = [];
      opening = lend 128 16 64;
      calls = ((lend 128 16 64, run false) ∷ []);
      check = (passes None);
      answers = ((ran (told 0 (value v.Unit) 0 0) 4 [] []) ∷ []);
    }
    ∷  -- catch-with-an-empty-row
    record {
      image = (82 ∷ 72 ∷ 83 ∷ 1 ∷ 0 ∷ 0 ∷ 3 ∷ 0 ∷ 2 ∷ 0 ∷ 0 ∷ 0 ∷ 9 ∷ 0 ∷ 0 ∷ 0 ∷ 1 ∷ 0 ∷ 1 ∷ 0 ∷ 1 ∷ 0 ∷ 2 ∷ 0 ∷ 0 ∷ 0 ∷ 11 ∷ 0 ∷ 1 ∷ 0 ∷ 1 ∷ 0 ∷ 0 ∷ 0 ∷ 1 ∷ 0 ∷ 2 ∷ 0 ∷ 0 ∷ 0 ∷ 0 ∷ 0 ∷ 0 ∷ 0 ∷ 0 ∷ 0 ∷ 12 ∷ 8 ∷ 2 ∷ 0 ∷ 1 ∷ 0 ∷ 255 ∷ 255 ∷ 0 ∷ 0 ∷ 0 ∷ 0 ∷ 0 ∷ 0 ∷ 0 ∷ 0 ∷ 0 ∷ 0 ∷ 0 ∷ 0 ∷ 97 ∷ 98 ∷ 99 ∷ 100 ∷ 101 ∷ 102 ∷ 97 ∷ 98 ∷ 99 ∷ []);
      text = (97 ∷ 98 ∷ 99 ∷ 113 ∷ []);
      operations = 50;
      names = 10;
      modules = 0;
      host = (site []);
      first = [];
      second = [];
      opening = lend 128 16 64;
      calls = ((lend 128 16 64, run false) ∷ []);
      check = (passes (Some 2));
      answers = ((ran (told 0 (value v.Unit) 0 0) 2 [] []) ∷ []);
    }
    ∷  -- level-of-block-zero
    record {
      image = (82 ∷ 72 ∷ 83 ∷ 1 ∷ 0 ∷ 0 ∷ 1 ∷ 0 ∷ 1 ∷ 0 ∷ 1 ∷ 0 ∷ 9 ∷ 0 ∷ 0 ∷ 0 ∷ 1 ∷ 0 ∷ 4 ∷ 0 ∷ 1 ∷ 0 ∷ 1 ∷ 0 ∷ 0 ∷ 0 ∷ 0 ∷ 0 ∷ 0 ∷ 0 ∷ 0 ∷ 0 ∷ 1 ∷ 0 ∷ 0 ∷ 0 ∷ 0 ∷ 0 ∷ 0 ∷ 0 ∷ 1 ∷ 0 ∷ 5 ∷ 0 ∷ 0 ∷ 0 ∷ 97 ∷ 98 ∷ 99 ∷ 100 ∷ 101 ∷ 102 ∷ 97 ∷ 98 ∷ 99 ∷ []);
      text = (97 ∷ 98 ∷ 99 ∷ 113 ∷ []);
      operations = 50;
      names = 10;
      modules = 0;
      host = (scripted [] ((declaration None None (allow.Level 0)) ∷ []));
      first = [];
      second = [];
      opening = lend 128 16 64;
      calls = ((lend 128 16 64, run false) ∷ []);
      check = (passes (Some 2));
      answers = ((ran (told 0 (value v.Unit) 0 0) 2 ((variable (place Rule 0 1) ReadWrite v.Unit) ∷ []) []) ∷ []);
    }
    ∷  -- level-in-a-for
    record {
      image = (82 ∷ 72 ∷ 83 ∷ 1 ∷ 0 ∷ 0 ∷ 2 ∷ 0 ∷ 2 ∷ 0 ∷ 2 ∷ 0 ∷ 9 ∷ 0 ∷ 0 ∷ 0 ∷ 1 ∷ 0 ∷ 1 ∷ 0 ∷ 1 ∷ 0 ∷ 9 ∷ 0 ∷ 1 ∷ 0 ∷ 1 ∷ 0 ∷ 0 ∷ 0 ∷ 1 ∷ 0 ∷ 0 ∷ 0 ∷ 1 ∷ 0 ∷ 1 ∷ 0 ∷ 0 ∷ 0 ∷ 0 ∷ 0 ∷ 4 ∷ 0 ∷ 2 ∷ 0 ∷ 1 ∷ 0 ∷ 1 ∷ 0 ∷ 0 ∷ 0 ∷ 0 ∷ 0 ∷ 0 ∷ 0 ∷ 1 ∷ 0 ∷ 0 ∷ 0 ∷ 0 ∷ 0 ∷ 0 ∷ 0 ∷ 1 ∷ 0 ∷ 5 ∷ 0 ∷ 0 ∷ 0 ∷ 0 ∷ 0 ∷ 2 ∷ 0 ∷ 5 ∷ 0 ∷ 0 ∷ 0 ∷ 97 ∷ 98 ∷ 99 ∷ 100 ∷ 101 ∷ 102 ∷ 97 ∷ 98 ∷ 99 ∷ []);
      text = (97 ∷ 98 ∷ 99 ∷ 113 ∷ []);
      operations = 50;
      names = 10;
      modules = 0;
      host = (scripted ((evaluation None None (eval.Value (v.Seq 1))) ∷ []) ((declaration None None (allow.Level 1)) ∷ []));
      first = [];
      second = [];
      opening = lend 128 16 64;
      calls = ((lend 128 16 64, run false) ∷ []);
      check = (passes None);
      answers = ((ran (told 0 (value v.Unit) 0 0) 4 [] []) ∷ []);
    }
    ∷  -- level-in-a-catch
    record {
      image = (82 ∷ 72 ∷ 83 ∷ 1 ∷ 0 ∷ 0 ∷ 3 ∷ 0 ∷ 3 ∷ 0 ∷ 1 ∷ 0 ∷ 9 ∷ 0 ∷ 0 ∷ 0 ∷ 1 ∷ 0 ∷ 1 ∷ 0 ∷ 1 ∷ 0 ∷ 2 ∷ 0 ∷ 1 ∷ 0 ∷ 11 ∷ 0 ∷ 1 ∷ 0 ∷ 1 ∷ 0 ∷ 0 ∷ 0 ∷ 1 ∷ 0 ∷ 2 ∷ 0 ∷ 4 ∷ 0 ∷ 1 ∷ 0 ∷ 0 ∷ 0 ∷ 0 ∷ 0 ∷ 12 ∷ 8 ∷ 2 ∷ 0 ∷ 1 ∷ 0 ∷ 255 ∷ 255 ∷ 0 ∷ 0 ∷ 0 ∷ 0 ∷ 0 ∷ 0 ∷ 0 ∷ 0 ∷ 0 ∷ 0 ∷ 0 ∷ 0 ∷ 4 ∷ 0 ∷ 3 ∷ 0 ∷ 1 ∷ 0 ∷ 0 ∷ 0 ∷ 0 ∷ 0 ∷ 0 ∷ 0 ∷ 0 ∷ 0 ∷ 1 ∷ 0 ∷ 0 ∷ 0 ∷ 0 ∷ 0 ∷ 0 ∷ 0 ∷ 3 ∷ 0 ∷ 5 ∷ 0 ∷ 0 ∷ 0 ∷ 97 ∷ 98 ∷ 99 ∷ 100 ∷ 101 ∷ 102 ∷ 97 ∷ 98 ∷ 99 ∷ []);
      text = (97 ∷ 98 ∷ 99 ∷ 113 ∷ []);
      operations = 50;
      names = 10;
      modules = 0;
      host = (scripted [] ((declaration None None (allow.Level 1)) ∷ []));
      first = [];
      second = [];
      opening = lend 128 16 64;
      calls = ((lend 128 16 64, run false) ∷ []);
      check = (passes (Some 4));
      answers = ((ran (told 0 (value v.Unit) 0 0) 4 [] []) ∷ []);
    }
    ∷  -- level-after-a-fault-in-a-block
    record {
      image = (82 ∷ 72 ∷ 83 ∷ 1 ∷ 0 ∷ 0 ∷ 2 ∷ 0 ∷ 3 ∷ 0 ∷ 1 ∷ 0 ∷ 9 ∷ 0 ∷ 0 ∷ 0 ∷ 2 ∷ 0 ∷ 2 ∷ 0 ∷ 1 ∷ 0 ∷ 11 ∷ 0 ∷ 1 ∷ 0 ∷ 1 ∷ 0 ∷ 0 ∷ 0 ∷ 1 ∷ 0 ∷ 255 ∷ 255 ∷ 0 ∷ 0 ∷ 0 ∷ 0 ∷ 0 ∷ 0 ∷ 0 ∷ 0 ∷ 4 ∷ 0 ∷ 2 ∷ 0 ∷ 1 ∷ 0 ∷ 0 ∷ 0 ∷ 0 ∷ 0 ∷ 0 ∷ 0 ∷ 0 ∷ 0 ∷ 1 ∷ 0 ∷ 0 ∷ 0 ∷ 0 ∷ 0 ∷ 12 ∷ 8 ∷ 3 ∷ 0 ∷ 1 ∷ 0 ∷ 255 ∷ 255 ∷ 0 ∷ 0 ∷ 0 ∷ 0 ∷ 0 ∷ 0 ∷ 0 ∷ 0 ∷ 0 ∷ 0 ∷ 0 ∷ 0 ∷ 0 ∷ 0 ∷ 2 ∷ 0 ∷ 5 ∷ 0 ∷ 0 ∷ 0 ∷ 97 ∷ 98 ∷ 99 ∷ 100 ∷ 101 ∷ 102 ∷ 97 ∷ 98 ∷ 99 ∷ []);
      text = (97 ∷ 98 ∷ 99 ∷ 113 ∷ []);
      operations = 50;
      names = 10;
      modules = 0;
      host = (scripted [] ((declaration None None (allow.Level 0)) ∷ []));
      first = [];
      second = [];
      opening = lend 128 16 64;
      calls = ((lend 128 16 64, run false) ∷ []);
      check = (passes (Some 4));
      answers = ((ran (told 0 (value v.Unit) 0 0) 4 ((variable (place Rule 0 1) ReadWrite v.Unit) ∷ []) []) ∷ []);
    }
    ∷  -- endless-while-with-empty-body
    record {
      image = (82 ∷ 72 ∷ 83 ∷ 1 ∷ 0 ∷ 0 ∷ 1 ∷ 0 ∷ 1 ∷ 0 ∷ 1 ∷ 0 ∷ 9 ∷ 0 ∷ 0 ∷ 0 ∷ 1 ∷ 0 ∷ 7 ∷ 0 ∷ 1 ∷ 0 ∷ 1 ∷ 0 ∷ 0 ∷ 0 ∷ 255 ∷ 255 ∷ 0 ∷ 0 ∷ 0 ∷ 0 ∷ 0 ∷ 0 ∷ 0 ∷ 0 ∷ 0 ∷ 0 ∷ 3 ∷ 0 ∷ 1 ∷ 0 ∷ 5 ∷ 0 ∷ 0 ∷ 0 ∷ 97 ∷ 98 ∷ 99 ∷ 100 ∷ 101 ∷ 102 ∷ 97 ∷ 98 ∷ 99 ∷ []);
      text = (97 ∷ 98 ∷ 99 ∷ 113 ∷ []);
      operations = 5;
      names = 10;
      modules = 0;
      host = (site []);
      first = [];
      second = [];
      opening = lend 128 16 64;
      calls = ((lend 128 16 64, run false) ∷ []);
      check = (passes None);
      answers = ((ran (told 12 nothing 1 1) 6 [] []) ∷ []);
    }
    ∷  -- endless-while-by-unit
    record {
      image = (82 ∷ 72 ∷ 83 ∷ 1 ∷ 0 ∷ 0 ∷ 2 ∷ 0 ∷ 2 ∷ 0 ∷ 2 ∷ 0 ∷ 9 ∷ 0 ∷ 0 ∷ 0 ∷ 1 ∷ 0 ∷ 1 ∷ 0 ∷ 1 ∷ 0 ∷ 7 ∷ 0 ∷ 1 ∷ 0 ∷ 1 ∷ 0 ∷ 0 ∷ 0 ∷ 1 ∷ 0 ∷ 0 ∷ 0 ∷ 0 ∷ 0 ∷ 0 ∷ 0 ∷ 0 ∷ 0 ∷ 0 ∷ 0 ∷ 10 ∷ 8 ∷ 2 ∷ 0 ∷ 1 ∷ 0 ∷ 1 ∷ 0 ∷ 0 ∷ 0 ∷ 0 ∷ 0 ∷ 0 ∷ 0 ∷ 0 ∷ 0 ∷ 0 ∷ 0 ∷ 0 ∷ 0 ∷ 1 ∷ 0 ∷ 1 ∷ 0 ∷ 5 ∷ 0 ∷ 0 ∷ 0 ∷ 0 ∷ 0 ∷ 2 ∷ 0 ∷ 5 ∷ 0 ∷ 0 ∷ 0 ∷ 97 ∷ 98 ∷ 99 ∷ 100 ∷ 101 ∷ 102 ∷ 97 ∷ 98 ∷ 99 ∷ []);
      text = (97 ∷ 98 ∷ 99 ∷ 113 ∷ []);
      operations = 50;
      names = 10;
      modules = 0;
      host = (scripted ((evaluation None None (eval.Value (v.Number (pos 3)))) ∷ []) []);
      first = [];
      second = [];
      opening = lend 128 16 64;
      calls = ((lend 128 16 64, run false) ∷ []);
      check = (passes None);
      answers = ((ran (told 0 (value (v.Number (pos 3))) 0 0) 3 [] []) ∷ []);
    }
    ∷  -- while-with-empty-body
    record {
      image = (82 ∷ 72 ∷ 83 ∷ 1 ∷ 0 ∷ 0 ∷ 1 ∷ 0 ∷ 1 ∷ 0 ∷ 1 ∷ 0 ∷ 9 ∷ 0 ∷ 0 ∷ 0 ∷ 1 ∷ 0 ∷ 7 ∷ 0 ∷ 1 ∷ 0 ∷ 1 ∷ 0 ∷ 0 ∷ 0 ∷ 255 ∷ 255 ∷ 0 ∷ 0 ∷ 0 ∷ 0 ∷ 0 ∷ 0 ∷ 0 ∷ 0 ∷ 0 ∷ 0 ∷ 0 ∷ 0 ∷ 1 ∷ 0 ∷ 5 ∷ 0 ∷ 0 ∷ 0 ∷ 97 ∷ 98 ∷ 99 ∷ 100 ∷ 101 ∷ 102 ∷ 97 ∷ 98 ∷ 99 ∷ []);
      text = (97 ∷ 98 ∷ 99 ∷ 113 ∷ []);
      operations = 50;
      names = 10;
      modules = 0;
      host = (scripted ((evaluation None None (eval.Value (v.Truth true))) ∷ (evaluation None None (eval.Value (v.Truth true))) ∷ (evaluation None None (eval.Value (v.Truth false))) ∷ []) []);
      first = [];
      second = [];
      opening = lend 128 16 64;
      calls = ((lend 128 16 64, run false) ∷ []);
      check = (passes None);
      answers = ((ran (told 0 (value v.Unit) 0 0) 4 [] []) ∷ []);
    }
    ∷  -- while-by-a-unit-of-the-host
    record {
      image = (82 ∷ 72 ∷ 83 ∷ 1 ∷ 0 ∷ 0 ∷ 1 ∷ 0 ∷ 1 ∷ 0 ∷ 1 ∷ 0 ∷ 9 ∷ 0 ∷ 0 ∷ 0 ∷ 1 ∷ 0 ∷ 7 ∷ 0 ∷ 1 ∷ 0 ∷ 1 ∷ 0 ∷ 0 ∷ 0 ∷ 255 ∷ 255 ∷ 0 ∷ 0 ∷ 0 ∷ 0 ∷ 0 ∷ 0 ∷ 0 ∷ 0 ∷ 0 ∷ 0 ∷ 0 ∷ 0 ∷ 1 ∷ 0 ∷ 5 ∷ 0 ∷ 0 ∷ 0 ∷ 97 ∷ 98 ∷ 99 ∷ 100 ∷ 101 ∷ 102 ∷ 97 ∷ 98 ∷ 99 ∷ []);
      text = (97 ∷ 98 ∷ 99 ∷ 113 ∷ []);
      operations = 50;
      names = 10;
      modules = 0;
      host = (scripted ((evaluation None None (eval.Value v.Unit)) ∷ []) []);
      first = [];
      second = [];
      opening = lend 128 16 64;
      calls = ((lend 128 16 64, run false) ∷ []);
      check = (passes None);
      answers = ((ran (told 15 nothing 1 5) 2 [] []) ∷ []);
    }
    ∷  -- do-by-unit
    record {
      image = (82 ∷ 72 ∷ 83 ∷ 1 ∷ 0 ∷ 0 ∷ 1 ∷ 0 ∷ 1 ∷ 0 ∷ 1 ∷ 0 ∷ 9 ∷ 0 ∷ 0 ∷ 0 ∷ 1 ∷ 0 ∷ 8 ∷ 0 ∷ 1 ∷ 0 ∷ 1 ∷ 0 ∷ 0 ∷ 0 ∷ 255 ∷ 255 ∷ 0 ∷ 0 ∷ 0 ∷ 0 ∷ 0 ∷ 0 ∷ 0 ∷ 0 ∷ 0 ∷ 0 ∷ 1 ∷ 0 ∷ 1 ∷ 0 ∷ 5 ∷ 0 ∷ 0 ∷ 0 ∷ 97 ∷ 98 ∷ 99 ∷ 100 ∷ 101 ∷ 102 ∷ 97 ∷ 98 ∷ 99 ∷ []);
      text = (97 ∷ 98 ∷ 99 ∷ 113 ∷ []);
      operations = 50;
      names = 10;
      modules = 0;
      host = (site []);
      first = [];
      second = [];
      opening = lend 128 16 64;
      calls = ((lend 128 16 64, run false) ∷ []);
      check = (passes None);
      answers = ((ran (told 15 nothing 1 5) 2 [] []) ∷ []);
    }
    ∷  -- do-until
    record {
      image = (82 ∷ 72 ∷ 83 ∷ 1 ∷ 0 ∷ 0 ∷ 2 ∷ 0 ∷ 2 ∷ 0 ∷ 1 ∷ 0 ∷ 9 ∷ 0 ∷ 0 ∷ 0 ∷ 1 ∷ 0 ∷ 1 ∷ 0 ∷ 1 ∷ 0 ∷ 8 ∷ 4 ∷ 1 ∷ 0 ∷ 1 ∷ 0 ∷ 0 ∷ 0 ∷ 1 ∷ 0 ∷ 0 ∷ 0 ∷ 0 ∷ 0 ∷ 0 ∷ 0 ∷ 0 ∷ 0 ∷ 0 ∷ 0 ∷ 0 ∷ 0 ∷ 2 ∷ 0 ∷ 1 ∷ 0 ∷ 0 ∷ 0 ∷ 0 ∷ 0 ∷ 0 ∷ 0 ∷ 0 ∷ 0 ∷ 0 ∷ 0 ∷ 0 ∷ 0 ∷ 0 ∷ 0 ∷ 0 ∷ 0 ∷ 1 ∷ 0 ∷ 5 ∷ 0 ∷ 0 ∷ 0 ∷ 97 ∷ 98 ∷ 99 ∷ 100 ∷ 101 ∷ 102 ∷ 97 ∷ 98 ∷ 99 ∷ []);
      text = (97 ∷ 98 ∷ 99 ∷ 113 ∷ []);
      operations = 50;
      names = 10;
      modules = 0;
      host = (scripted ((evaluation None None (eval.Value (v.Truth false))) ∷ (evaluation None None (eval.Value (v.Truth true))) ∷ []) []);
      first = [];
      second = [];
      opening = lend 128 16 64;
      calls = ((lend 128 16 64, run false) ∷ []);
      check = (passes None);
      answers = ((ran (told 0 (value v.Unit) 0 0) 5 [] []) ∷ []);
    }
    ∷  -- do-with-empty-body
    record {
      image = (82 ∷ 72 ∷ 83 ∷ 1 ∷ 0 ∷ 0 ∷ 1 ∷ 0 ∷ 1 ∷ 0 ∷ 1 ∷ 0 ∷ 9 ∷ 0 ∷ 0 ∷ 0 ∷ 1 ∷ 0 ∷ 8 ∷ 0 ∷ 1 ∷ 0 ∷ 1 ∷ 0 ∷ 0 ∷ 0 ∷ 255 ∷ 255 ∷ 0 ∷ 0 ∷ 0 ∷ 0 ∷ 0 ∷ 0 ∷ 0 ∷ 0 ∷ 0 ∷ 0 ∷ 0 ∷ 0 ∷ 1 ∷ 0 ∷ 5 ∷ 0 ∷ 0 ∷ 0 ∷ 97 ∷ 98 ∷ 99 ∷ 100 ∷ 101 ∷ 102 ∷ 97 ∷ 98 ∷ 99 ∷ []);
      text = (97 ∷ 98 ∷ 99 ∷ 113 ∷ []);
      operations = 50;
      names = 10;
      modules = 0;
      host = (scripted ((evaluation None None (eval.Value (v.Truth true))) ∷ (evaluation None None (eval.Value (v.Truth false))) ∷ []) []);
      first = [];
      second = [];
      opening = lend 128 16 64;
      calls = ((lend 128 16 64, run false) ∷ []);
      check = (passes None);
      answers = ((ran (told 0 (value v.Unit) 0 0) 3 [] []) ∷ []);
    }
    ∷  -- continue-with-value
    record {
      image = (82 ∷ 72 ∷ 83 ∷ 1 ∷ 0 ∷ 0 ∷ 2 ∷ 0 ∷ 2 ∷ 0 ∷ 2 ∷ 0 ∷ 9 ∷ 0 ∷ 0 ∷ 0 ∷ 1 ∷ 0 ∷ 1 ∷ 0 ∷ 1 ∷ 0 ∷ 7 ∷ 0 ∷ 1 ∷ 0 ∷ 1 ∷ 0 ∷ 0 ∷ 0 ∷ 1 ∷ 0 ∷ 0 ∷ 0 ∷ 0 ∷ 0 ∷ 0 ∷ 0 ∷ 0 ∷ 0 ∷ 0 ∷ 0 ∷ 10 ∷ 0 ∷ 2 ∷ 0 ∷ 1 ∷ 0 ∷ 1 ∷ 0 ∷ 0 ∷ 0 ∷ 0 ∷ 0 ∷ 0 ∷ 0 ∷ 0 ∷ 0 ∷ 0 ∷ 0 ∷ 0 ∷ 0 ∷ 0 ∷ 0 ∷ 1 ∷ 0 ∷ 5 ∷ 0 ∷ 0 ∷ 0 ∷ 0 ∷ 0 ∷ 2 ∷ 0 ∷ 5 ∷ 0 ∷ 0 ∷ 0 ∷ 97 ∷ 98 ∷ 99 ∷ 100 ∷ 101 ∷ 102 ∷ 97 ∷ 98 ∷ 99 ∷ []);
      text = (97 ∷ 98 ∷ 99 ∷ 113 ∷ []);
      operations = 50;
      names = 10;
      modules = 0;
      host = (scripted ((evaluation None None (eval.Value (v.Truth true))) ∷ (evaluation None None (eval.Value (v.Number (pos 1)))) ∷ (evaluation None None (eval.Value (v.Truth false))) ∷ []) []);
      first = [];
      second = [];
      opening = lend 128 16 64;
      calls = ((lend 128 16 64, run false) ∷ []);
      check = (passes None);
      answers = ((ran (told 0 (value v.Unit) 0 0) 5 [] []) ∷ []);
    }
    ∷  -- break-without-value
    record {
      image = (82 ∷ 72 ∷ 83 ∷ 1 ∷ 0 ∷ 0 ∷ 2 ∷ 0 ∷ 2 ∷ 0 ∷ 1 ∷ 0 ∷ 9 ∷ 0 ∷ 0 ∷ 0 ∷ 1 ∷ 0 ∷ 1 ∷ 0 ∷ 1 ∷ 0 ∷ 7 ∷ 0 ∷ 1 ∷ 0 ∷ 1 ∷ 0 ∷ 0 ∷ 0 ∷ 1 ∷ 0 ∷ 0 ∷ 0 ∷ 0 ∷ 0 ∷ 0 ∷ 0 ∷ 0 ∷ 0 ∷ 0 ∷ 0 ∷ 10 ∷ 8 ∷ 2 ∷ 0 ∷ 1 ∷ 0 ∷ 255 ∷ 255 ∷ 0 ∷ 0 ∷ 0 ∷ 0 ∷ 0 ∷ 0 ∷ 0 ∷ 0 ∷ 0 ∷ 0 ∷ 0 ∷ 0 ∷ 0 ∷ 0 ∷ 1 ∷ 0 ∷ 5 ∷ 0 ∷ 0 ∷ 0 ∷ 97 ∷ 98 ∷ 99 ∷ 100 ∷ 101 ∷ 102 ∷ 97 ∷ 98 ∷ 99 ∷ []);
      text = (97 ∷ 98 ∷ 99 ∷ 113 ∷ []);
      operations = 50;
      names = 10;
      modules = 0;
      host = (scripted ((evaluation None None (eval.Value (v.Truth true))) ∷ []) []);
      first = [];
      second = [];
      opening = lend 128 16 64;
      calls = ((lend 128 16 64, run false) ∷ []);
      check = (passes None);
      answers = ((ran (told 0 (value v.Unit) 0 0) 3 [] []) ∷ []);
    }
    ∷  -- break-through-try-and-catch
    record {
      image = (82 ∷ 72 ∷ 83 ∷ 1 ∷ 0 ∷ 0 ∷ 6 ∷ 0 ∷ 6 ∷ 0 ∷ 2 ∷ 0 ∷ 9 ∷ 0 ∷ 0 ∷ 0 ∷ 1 ∷ 0 ∷ 1 ∷ 0 ∷ 1 ∷ 0 ∷ 2 ∷ 0 ∷ 1 ∷ 0 ∷ 3 ∷ 0 ∷ 1 ∷ 0 ∷ 4 ∷ 0 ∷ 1 ∷ 0 ∷ 5 ∷ 0 ∷ 1 ∷ 0 ∷ 7 ∷ 0 ∷ 1 ∷ 0 ∷ 1 ∷ 0 ∷ 0 ∷ 0 ∷ 1 ∷ 0 ∷ 0 ∷ 0 ∷ 0 ∷ 0 ∷ 0 ∷ 0 ∷ 0 ∷ 0 ∷ 0 ∷ 0 ∷ 11 ∷ 0 ∷ 2 ∷ 0 ∷ 1 ∷ 0 ∷ 0 ∷ 0 ∷ 2 ∷ 0 ∷ 3 ∷ 0 ∷ 4 ∷ 0 ∷ 1 ∷ 0 ∷ 0 ∷ 0 ∷ 0 ∷ 0 ∷ 12 ∷ 8 ∷ 3 ∷ 0 ∷ 1 ∷ 0 ∷ 255 ∷ 255 ∷ 0 ∷ 0 ∷ 0 ∷ 0 ∷ 0 ∷ 0 ∷ 0 ∷ 0 ∷ 0 ∷ 0 ∷ 0 ∷ 0 ∷ 11 ∷ 0 ∷ 4 ∷ 0 ∷ 1 ∷ 0 ∷ 0 ∷ 0 ∷ 4 ∷ 0 ∷ 5 ∷ 0 ∷ 0 ∷ 0 ∷ 0 ∷ 0 ∷ 0 ∷ 0 ∷ 0 ∷ 0 ∷ 10 ∷ 8 ∷ 5 ∷ 0 ∷ 1 ∷ 0 ∷ 1 ∷ 0 ∷ 0 ∷ 0 ∷ 0 ∷ 0 ∷ 0 ∷ 0 ∷ 0 ∷ 0 ∷ 0 ∷ 0 ∷ 0 ∷ 0 ∷ 0 ∷ 0 ∷ 6 ∷ 0 ∷ 1 ∷ 0 ∷ 0 ∷ 0 ∷ 0 ∷ 0 ∷ 0 ∷ 0 ∷ 0 ∷ 0 ∷ 0 ∷ 0 ∷ 0 ∷ 0 ∷ 0 ∷ 0 ∷ 3 ∷ 0 ∷ 1 ∷ 0 ∷ 5 ∷ 0 ∷ 0 ∷ 0 ∷ 0 ∷ 0 ∷ 5 ∷ 0 ∷ 5 ∷ 0 ∷ 0 ∷ 0 ∷ 97 ∷ 98 ∷ 99 ∷ 100 ∷ 101 ∷ 102 ∷ 97 ∷ 98 ∷ 99 ∷ []);
      text = (97 ∷ 98 ∷ 99 ∷ 113 ∷ []);
      operations = 50;
      names = 10;
      modules = 0;
      host = (scripted ((evaluation None None (eval.Value (v.Number (pos 8)))) ∷ []) []);
      first = [];
      second = [];
      opening = lend 128 16 64;
      calls = ((lend 128 16 64, run false) ∷ []);
      check = (passes None);
      answers = ((ran (told 0 (value (v.Number (pos 8))) 0 0) 6 [] []) ∷ []);
    }
    ∷  -- continue-through-try-and-catch
    record {
      image = (82 ∷ 72 ∷ 83 ∷ 1 ∷ 0 ∷ 0 ∷ 6 ∷ 0 ∷ 7 ∷ 0 ∷ 1 ∷ 0 ∷ 9 ∷ 0 ∷ 0 ∷ 0 ∷ 1 ∷ 0 ∷ 1 ∷ 0 ∷ 2 ∷ 0 ∷ 3 ∷ 0 ∷ 1 ∷ 0 ∷ 4 ∷ 0 ∷ 1 ∷ 0 ∷ 5 ∷ 0 ∷ 1 ∷ 0 ∷ 6 ∷ 0 ∷ 1 ∷ 0 ∷ 7 ∷ 0 ∷ 1 ∷ 0 ∷ 1 ∷ 0 ∷ 0 ∷ 0 ∷ 1 ∷ 0 ∷ 0 ∷ 0 ∷ 0 ∷ 0 ∷ 0 ∷ 0 ∷ 0 ∷ 0 ∷ 0 ∷ 0 ∷ 11 ∷ 0 ∷ 2 ∷ 0 ∷ 1 ∷ 0 ∷ 0 ∷ 0 ∷ 2 ∷ 0 ∷ 3 ∷ 0 ∷ 4 ∷ 0 ∷ 1 ∷ 0 ∷ 0 ∷ 0 ∷ 0 ∷ 0 ∷ 12 ∷ 0 ∷ 3 ∷ 0 ∷ 1 ∷ 0 ∷ 255 ∷ 255 ∷ 0 ∷ 0 ∷ 0 ∷ 0 ∷ 0 ∷ 0 ∷ 0 ∷ 0 ∷ 0 ∷ 0 ∷ 0 ∷ 0 ∷ 12 ∷ 8 ∷ 4 ∷ 0 ∷ 1 ∷ 0 ∷ 255 ∷ 255 ∷ 0 ∷ 0 ∷ 0 ∷ 0 ∷ 0 ∷ 0 ∷ 0 ∷ 0 ∷ 0 ∷ 0 ∷ 0 ∷ 0 ∷ 11 ∷ 0 ∷ 5 ∷ 0 ∷ 1 ∷ 0 ∷ 0 ∷ 0 ∷ 4 ∷ 0 ∷ 5 ∷ 0 ∷ 0 ∷ 0 ∷ 0 ∷ 0 ∷ 0 ∷ 0 ∷ 0 ∷ 0 ∷ 10 ∷ 0 ∷ 6 ∷ 0 ∷ 1 ∷ 0 ∷ 255 ∷ 255 ∷ 0 ∷ 0 ∷ 0 ∷ 0 ∷ 0 ∷ 0 ∷ 0 ∷ 0 ∷ 0 ∷ 0 ∷ 0 ∷ 0 ∷ 0 ∷ 0 ∷ 7 ∷ 0 ∷ 1 ∷ 0 ∷ 0 ∷ 0 ∷ 0 ∷ 0 ∷ 0 ∷ 0 ∷ 0 ∷ 0 ∷ 0 ∷ 0 ∷ 0 ∷ 0 ∷ 0 ∷ 0 ∷ 0 ∷ 0 ∷ 1 ∷ 0 ∷ 5 ∷ 0 ∷ 0 ∷ 0 ∷ 97 ∷ 98 ∷ 99 ∷ 100 ∷ 101 ∷ 102 ∷ 97 ∷ 98 ∷ 99 ∷ []);
      text = (97 ∷ 98 ∷ 99 ∷ 113 ∷ []);
      operations = 50;
      names = 10;
      modules = 0;
      host = (scripted ((evaluation None None (eval.Value (v.Truth true))) ∷ (evaluation None None (eval.Value (v.Truth false))) ∷ []) []);
      first = [];
      second = [];
      opening = lend 128 16 64;
      calls = ((lend 128 16 64, run false) ∷ []);
      check = (passes None);
      answers = ((ran (told 0 (value v.Unit) 0 0) 7 [] []) ∷ []);
    }
    ∷  -- while-gives-unit-after-a-value
    record {
      image = (82 ∷ 72 ∷ 83 ∷ 1 ∷ 0 ∷ 0 ∷ 2 ∷ 0 ∷ 2 ∷ 0 ∷ 2 ∷ 0 ∷ 9 ∷ 0 ∷ 0 ∷ 0 ∷ 1 ∷ 0 ∷ 1 ∷ 0 ∷ 1 ∷ 0 ∷ 7 ∷ 0 ∷ 1 ∷ 0 ∷ 1 ∷ 0 ∷ 0 ∷ 0 ∷ 1 ∷ 0 ∷ 0 ∷ 0 ∷ 0 ∷ 0 ∷ 0 ∷ 0 ∷ 0 ∷ 0 ∷ 0 ∷ 0 ∷ 1 ∷ 0 ∷ 2 ∷ 0 ∷ 1 ∷ 0 ∷ 1 ∷ 0 ∷ 0 ∷ 0 ∷ 0 ∷ 0 ∷ 0 ∷ 0 ∷ 0 ∷ 0 ∷ 0 ∷ 0 ∷ 0 ∷ 0 ∷ 0 ∷ 0 ∷ 1 ∷ 0 ∷ 5 ∷ 0 ∷ 0 ∷ 0 ∷ 0 ∷ 0 ∷ 2 ∷ 0 ∷ 5 ∷ 0 ∷ 0 ∷ 0 ∷ 97 ∷ 98 ∷ 99 ∷ 100 ∷ 101 ∷ 102 ∷ 97 ∷ 98 ∷ 99 ∷ []);
      text = (97 ∷ 98 ∷ 99 ∷ 113 ∷ []);
      operations = 50;
      names = 10;
      modules = 0;
      host = (scripted ((evaluation None None (eval.Value (v.Truth true))) ∷ (evaluation None None (eval.Value (v.Number (pos 3)))) ∷ (evaluation None None (eval.Value (v.Truth false))) ∷ []) []);
      first = [];
      second = [];
      opening = lend 128 16 64;
      calls = ((lend 128 16 64, run false) ∷ []);
      check = (passes None);
      answers = ((ran (told 0 (value v.Unit) 0 0) 5 [] []) ∷ []);
    }
    ∷  -- do-gives-unit-after-a-value
    record {
      image = (82 ∷ 72 ∷ 83 ∷ 1 ∷ 0 ∷ 0 ∷ 2 ∷ 0 ∷ 2 ∷ 0 ∷ 2 ∷ 0 ∷ 9 ∷ 0 ∷ 0 ∷ 0 ∷ 1 ∷ 0 ∷ 1 ∷ 0 ∷ 1 ∷ 0 ∷ 8 ∷ 0 ∷ 1 ∷ 0 ∷ 1 ∷ 0 ∷ 0 ∷ 0 ∷ 1 ∷ 0 ∷ 0 ∷ 0 ∷ 0 ∷ 0 ∷ 0 ∷ 0 ∷ 0 ∷ 0 ∷ 0 ∷ 0 ∷ 1 ∷ 0 ∷ 2 ∷ 0 ∷ 1 ∷ 0 ∷ 1 ∷ 0 ∷ 0 ∷ 0 ∷ 0 ∷ 0 ∷ 0 ∷ 0 ∷ 0 ∷ 0 ∷ 0 ∷ 0 ∷ 0 ∷ 0 ∷ 0 ∷ 0 ∷ 1 ∷ 0 ∷ 5 ∷ 0 ∷ 0 ∷ 0 ∷ 0 ∷ 0 ∷ 2 ∷ 0 ∷ 5 ∷ 0 ∷ 0 ∷ 0 ∷ 97 ∷ 98 ∷ 99 ∷ 100 ∷ 101 ∷ 102 ∷ 97 ∷ 98 ∷ 99 ∷ []);
      text = (97 ∷ 98 ∷ 99 ∷ 113 ∷ []);
      operations = 50;
      names = 10;
      modules = 0;
      host = (scripted ((evaluation None None (eval.Value (v.Number (pos 3)))) ∷ (evaluation None None (eval.Value (v.Truth false))) ∷ []) []);
      first = [];
      second = [];
      opening = lend 128 16 64;
      calls = ((lend 128 16 64, run false) ∷ []);
      check = (passes None);
      answers = ((ran (told 0 (value v.Unit) 0 0) 4 [] []) ∷ []);
    }
    ∷  -- for-gives-unit-after-a-value
    record {
      image = (82 ∷ 72 ∷ 83 ∷ 1 ∷ 0 ∷ 0 ∷ 2 ∷ 0 ∷ 2 ∷ 0 ∷ 2 ∷ 0 ∷ 9 ∷ 0 ∷ 0 ∷ 0 ∷ 1 ∷ 0 ∷ 1 ∷ 0 ∷ 1 ∷ 0 ∷ 9 ∷ 0 ∷ 1 ∷ 0 ∷ 1 ∷ 0 ∷ 0 ∷ 0 ∷ 1 ∷ 0 ∷ 0 ∷ 0 ∷ 0 ∷ 0 ∷ 1 ∷ 0 ∷ 0 ∷ 0 ∷ 0 ∷ 0 ∷ 1 ∷ 0 ∷ 2 ∷ 0 ∷ 1 ∷ 0 ∷ 1 ∷ 0 ∷ 0 ∷ 0 ∷ 0 ∷ 0 ∷ 0 ∷ 0 ∷ 0 ∷ 0 ∷ 0 ∷ 0 ∷ 0 ∷ 0 ∷ 0 ∷ 0 ∷ 1 ∷ 0 ∷ 5 ∷ 0 ∷ 0 ∷ 0 ∷ 0 ∷ 0 ∷ 2 ∷ 0 ∷ 5 ∷ 0 ∷ 0 ∷ 0 ∷ 97 ∷ 98 ∷ 99 ∷ 100 ∷ 101 ∷ 102 ∷ 97 ∷ 98 ∷ 99 ∷ []);
      text = (97 ∷ 98 ∷ 99 ∷ 113 ∷ []);
      operations = 50;
      names = 10;
      modules = 0;
      host = (scripted ((evaluation None None (eval.Value (v.Seq 1))) ∷ (evaluation None None (eval.Value (v.Number (pos 3)))) ∷ []) []);
      first = [];
      second = [];
      opening = lend 128 16 64;
      calls = ((lend 128 16 64, run false) ∷ []);
      check = (passes None);
      answers = ((ran (told 0 (value v.Unit) 0 0) 4 [] []) ∷ []);
    }
    ∷  -- do-evaluates-a-constant-condition
    record {
      image = (82 ∷ 72 ∷ 83 ∷ 1 ∷ 0 ∷ 0 ∷ 1 ∷ 0 ∷ 1 ∷ 0 ∷ 1 ∷ 0 ∷ 9 ∷ 0 ∷ 0 ∷ 0 ∷ 1 ∷ 0 ∷ 8 ∷ 0 ∷ 1 ∷ 0 ∷ 1 ∷ 0 ∷ 0 ∷ 0 ∷ 255 ∷ 255 ∷ 0 ∷ 0 ∷ 0 ∷ 0 ∷ 0 ∷ 0 ∷ 0 ∷ 0 ∷ 0 ∷ 0 ∷ 3 ∷ 0 ∷ 1 ∷ 0 ∷ 5 ∷ 0 ∷ 0 ∷ 0 ∷ 97 ∷ 98 ∷ 99 ∷ 100 ∷ 101 ∷ 102 ∷ 97 ∷ 98 ∷ 99 ∷ []);
      text = (97 ∷ 98 ∷ 99 ∷ 113 ∷ []);
      operations = 3;
      names = 10;
      modules = 0;
      host = (site []);
      first = [];
      second = [];
      opening = lend 128 16 64;
      calls = ((lend 128 16 64, run false) ∷ []);
      check = (passes None);
      answers = ((ran (told 12 nothing 1 5) 4 [] []) ∷ []);
    }
    ∷  -- do-broken-with-a-value
    record {
      image = (82 ∷ 72 ∷ 83 ∷ 1 ∷ 0 ∷ 0 ∷ 2 ∷ 0 ∷ 2 ∷ 0 ∷ 2 ∷ 0 ∷ 9 ∷ 0 ∷ 0 ∷ 0 ∷ 1 ∷ 0 ∷ 1 ∷ 0 ∷ 1 ∷ 0 ∷ 8 ∷ 0 ∷ 1 ∷ 0 ∷ 1 ∷ 0 ∷ 0 ∷ 0 ∷ 1 ∷ 0 ∷ 0 ∷ 0 ∷ 0 ∷ 0 ∷ 0 ∷ 0 ∷ 0 ∷ 0 ∷ 0 ∷ 0 ∷ 10 ∷ 8 ∷ 2 ∷ 0 ∷ 1 ∷ 0 ∷ 1 ∷ 0 ∷ 0 ∷ 0 ∷ 0 ∷ 0 ∷ 0 ∷ 0 ∷ 0 ∷ 0 ∷ 0 ∷ 0 ∷ 0 ∷ 0 ∷ 3 ∷ 0 ∷ 1 ∷ 0 ∷ 5 ∷ 0 ∷ 0 ∷ 0 ∷ 0 ∷ 0 ∷ 2 ∷ 0 ∷ 5 ∷ 0 ∷ 0 ∷ 0 ∷ 97 ∷ 98 ∷ 99 ∷ 100 ∷ 101 ∷ 102 ∷ 97 ∷ 98 ∷ 99 ∷ []);
      text = (97 ∷ 98 ∷ 99 ∷ 113 ∷ []);
      operations = 50;
      names = 10;
      modules = 0;
      host = (scripted ((evaluation None None (eval.Value (v.Number (pos 3)))) ∷ []) []);
      first = [];
      second = [];
      opening = lend 128 16 64;
      calls = ((lend 128 16 64, run false) ∷ []);
      check = (passes None);
      answers = ((ran (told 0 (value (v.Number (pos 3))) 0 0) 3 [] []) ∷ []);
    }
    ∷  -- names-of-a-round-go
    record {
      image = (82 ∷ 72 ∷ 83 ∷ 1 ∷ 0 ∷ 0 ∷ 2 ∷ 0 ∷ 3 ∷ 0 ∷ 3 ∷ 0 ∷ 9 ∷ 0 ∷ 0 ∷ 0 ∷ 2 ∷ 0 ∷ 2 ∷ 0 ∷ 1 ∷ 0 ∷ 7 ∷ 0 ∷ 1 ∷ 0 ∷ 1 ∷ 0 ∷ 0 ∷ 0 ∷ 1 ∷ 0 ∷ 0 ∷ 0 ∷ 0 ∷ 0 ∷ 0 ∷ 0 ∷ 0 ∷ 0 ∷ 0 ∷ 0 ∷ 1 ∷ 0 ∷ 2 ∷ 0 ∷ 1 ∷ 0 ∷ 1 ∷ 0 ∷ 0 ∷ 0 ∷ 0 ∷ 0 ∷ 0 ∷ 0 ∷ 0 ∷ 0 ∷ 0 ∷ 0 ∷ 0 ∷ 0 ∷ 4 ∷ 0 ∷ 3 ∷ 0 ∷ 1 ∷ 0 ∷ 2 ∷ 0 ∷ 0 ∷ 0 ∷ 0 ∷ 0 ∷ 0 ∷ 0 ∷ 1 ∷ 0 ∷ 0 ∷ 0 ∷ 0 ∷ 0 ∷ 0 ∷ 0 ∷ 1 ∷ 0 ∷ 5 ∷ 0 ∷ 0 ∷ 0 ∷ 0 ∷ 0 ∷ 2 ∷ 0 ∷ 5 ∷ 0 ∷ 0 ∷ 0 ∷ 0 ∷ 0 ∷ 3 ∷ 0 ∷ 5 ∷ 0 ∷ 0 ∷ 0 ∷ 97 ∷ 98 ∷ 99 ∷ 100 ∷ 101 ∷ 102 ∷ 97 ∷ 98 ∷ 99 ∷ []);
      text = (97 ∷ 98 ∷ 99 ∷ 113 ∷ []);
      operations = 50;
      names = 10;
      modules = 0;
      host = (scripted ((evaluation None None (eval.Value (v.Truth true))) ∷ (evaluation None None (eval.Value (v.Number (pos 1)))) ∷ (evaluation None None (eval.Value (v.Truth false))) ∷ (evaluation None None eval.Names) ∷ []) []);
      first = [];
      second = [];
      opening = lend 128 16 64;
      calls = ((lend 128 16 64, run false) ∷ []);
      check = (passes None);
      answers = ((ran (told 0 (value (v.Number (pos 0))) 0 0) 7 [] []) ∷ []);
    }
    ∷  -- for-over-a-range
    record {
      image = (82 ∷ 72 ∷ 83 ∷ 1 ∷ 0 ∷ 0 ∷ 2 ∷ 0 ∷ 3 ∷ 0 ∷ 3 ∷ 0 ∷ 9 ∷ 0 ∷ 0 ∷ 0 ∷ 2 ∷ 0 ∷ 2 ∷ 0 ∷ 1 ∷ 0 ∷ 4 ∷ 0 ∷ 1 ∷ 0 ∷ 1 ∷ 0 ∷ 0 ∷ 0 ∷ 0 ∷ 0 ∷ 0 ∷ 0 ∷ 2 ∷ 0 ∷ 1 ∷ 0 ∷ 0 ∷ 0 ∷ 0 ∷ 0 ∷ 9 ∷ 0 ∷ 2 ∷ 0 ∷ 1 ∷ 0 ∷ 1 ∷ 0 ∷ 1 ∷ 0 ∷ 0 ∷ 0 ∷ 0 ∷ 0 ∷ 1 ∷ 0 ∷ 1 ∷ 0 ∷ 1 ∷ 0 ∷ 3 ∷ 0 ∷ 3 ∷ 0 ∷ 1 ∷ 0 ∷ 2 ∷ 0 ∷ 0 ∷ 0 ∷ 0 ∷ 0 ∷ 2 ∷ 0 ∷ 1 ∷ 0 ∷ 0 ∷ 0 ∷ 0 ∷ 0 ∷ 0 ∷ 0 ∷ 1 ∷ 0 ∷ 5 ∷ 0 ∷ 0 ∷ 0 ∷ 0 ∷ 0 ∷ 2 ∷ 0 ∷ 5 ∷ 0 ∷ 1 ∷ 0 ∷ 0 ∷ 0 ∷ 3 ∷ 0 ∷ 5 ∷ 0 ∷ 2 ∷ 0 ∷ 97 ∷ 98 ∷ 99 ∷ 100 ∷ 101 ∷ 102 ∷ 97 ∷ 98 ∷ 99 ∷ []);
      text = (97 ∷ 98 ∷ 99 ∷ 113 ∷ []);
      operations = 50;
      names = 10;
      modules = 0;
      host = (site ((Operand (Constant (w.Number (pos 0)))) ∷ (Operand (Constant (w.Range (pos 4) (pos 7)))) ∷ (Binary Add (Variable (place Rule 0 1)) (Variable (place Rule 1 1))) ∷ []));
      first = [];
      second = [];
      opening = lend 128 16 64;
      calls = ((lend 128 16 64, run false) ∷ []);
      check = (passes None);
      answers = ((ran (told 0 (value v.Unit) 0 0) 13 ((variable (place Rule 2 1) ReadWrite (v.Number (pos 8))) ∷ []) []) ∷ []);
    }
    ∷  -- for-over-no-items
    record {
      image = (82 ∷ 72 ∷ 83 ∷ 1 ∷ 0 ∷ 0 ∷ 2 ∷ 0 ∷ 2 ∷ 0 ∷ 1 ∷ 0 ∷ 9 ∷ 0 ∷ 0 ∷ 0 ∷ 1 ∷ 0 ∷ 1 ∷ 0 ∷ 1 ∷ 0 ∷ 9 ∷ 0 ∷ 1 ∷ 0 ∷ 1 ∷ 0 ∷ 0 ∷ 0 ∷ 1 ∷ 0 ∷ 0 ∷ 0 ∷ 0 ∷ 0 ∷ 1 ∷ 0 ∷ 0 ∷ 0 ∷ 0 ∷ 0 ∷ 0 ∷ 0 ∷ 2 ∷ 0 ∷ 1 ∷ 0 ∷ 0 ∷ 0 ∷ 0 ∷ 0 ∷ 0 ∷ 0 ∷ 0 ∷ 0 ∷ 0 ∷ 0 ∷ 0 ∷ 0 ∷ 0 ∷ 0 ∷ 0 ∷ 0 ∷ 1 ∷ 0 ∷ 5 ∷ 0 ∷ 0 ∷ 0 ∷ 97 ∷ 98 ∷ 99 ∷ 100 ∷ 101 ∷ 102 ∷ 97 ∷ 98 ∷ 99 ∷ []);
      text = (97 ∷ 98 ∷ 99 ∷ 113 ∷ []);
      operations = 50;
      names = 10;
      modules = 0;
      host = (site ((Operand (Constant (w.Range (pos 4) (pos 4)))) ∷ []));
      first = [];
      second = [];
      opening = lend 128 16 64;
      calls = ((lend 128 16 64, run false) ∷ []);
      check = (passes None);
      answers = ((ran (told 0 (value v.Unit) 0 0) 2 [] []) ∷ []);
    }
    ∷  -- for-with-empty-body
    record {
      image = (82 ∷ 72 ∷ 83 ∷ 1 ∷ 0 ∷ 0 ∷ 1 ∷ 0 ∷ 1 ∷ 0 ∷ 1 ∷ 0 ∷ 9 ∷ 0 ∷ 0 ∷ 0 ∷ 1 ∷ 0 ∷ 9 ∷ 0 ∷ 1 ∷ 0 ∷ 1 ∷ 0 ∷ 0 ∷ 0 ∷ 255 ∷ 255 ∷ 0 ∷ 0 ∷ 0 ∷ 0 ∷ 1 ∷ 0 ∷ 0 ∷ 0 ∷ 0 ∷ 0 ∷ 0 ∷ 0 ∷ 1 ∷ 0 ∷ 5 ∷ 0 ∷ 0 ∷ 0 ∷ 97 ∷ 98 ∷ 99 ∷ 100 ∷ 101 ∷ 102 ∷ 97 ∷ 98 ∷ 99 ∷ []);
      text = (97 ∷ 98 ∷ 99 ∷ 113 ∷ []);
      operations = 50;
      names = 10;
      modules = 0;
      host = (site ((Operand (Constant (w.Range (pos 0) (pos 3)))) ∷ []));
      first = [];
      second = [];
      opening = lend 128 16 64;
      calls = ((lend 128 16 64, run false) ∷ []);
      check = (passes None);
      answers = ((ran (told 0 (value v.Unit) 0 0) 5 [] []) ∷ []);
    }
    ∷  -- for-with-empty-body-struck
    record {
      image = (82 ∷ 72 ∷ 83 ∷ 1 ∷ 0 ∷ 0 ∷ 1 ∷ 0 ∷ 1 ∷ 0 ∷ 1 ∷ 0 ∷ 9 ∷ 0 ∷ 0 ∷ 0 ∷ 1 ∷ 0 ∷ 9 ∷ 0 ∷ 1 ∷ 0 ∷ 1 ∷ 0 ∷ 0 ∷ 0 ∷ 255 ∷ 255 ∷ 0 ∷ 0 ∷ 0 ∷ 0 ∷ 1 ∷ 0 ∷ 0 ∷ 0 ∷ 0 ∷ 0 ∷ 0 ∷ 0 ∷ 1 ∷ 0 ∷ 5 ∷ 0 ∷ 0 ∷ 0 ∷ 97 ∷ 98 ∷ 99 ∷ 100 ∷ 101 ∷ 102 ∷ 97 ∷ 98 ∷ 99 ∷ []);
      text = (97 ∷ 98 ∷ 99 ∷ 113 ∷ []);
      operations = 4;
      names = 10;
      modules = 0;
      host = (site ((Operand (Constant (w.Range (pos 0) (pos 9)))) ∷ []));
      first = [];
      second = [];
      opening = lend 128 16 64;
      calls = ((lend 128 16 64, run false) ∷ []);
      check = (passes None);
      answers = ((ran (told 12 nothing 1 1) 5 [] []) ∷ []);
    }
    ∷  -- for-over-a-number
    record {
      image = (82 ∷ 72 ∷ 83 ∷ 1 ∷ 0 ∷ 0 ∷ 1 ∷ 0 ∷ 1 ∷ 0 ∷ 1 ∷ 0 ∷ 9 ∷ 0 ∷ 0 ∷ 0 ∷ 1 ∷ 0 ∷ 9 ∷ 0 ∷ 1 ∷ 0 ∷ 1 ∷ 0 ∷ 0 ∷ 0 ∷ 255 ∷ 255 ∷ 0 ∷ 0 ∷ 0 ∷ 0 ∷ 1 ∷ 0 ∷ 0 ∷ 0 ∷ 0 ∷ 0 ∷ 0 ∷ 0 ∷ 1 ∷ 0 ∷ 5 ∷ 0 ∷ 0 ∷ 0 ∷ 97 ∷ 98 ∷ 99 ∷ 100 ∷ 101 ∷ 102 ∷ 97 ∷ 98 ∷ 99 ∷ []);
      text = (97 ∷ 98 ∷ 99 ∷ 113 ∷ []);
      operations = 50;
      names = 10;
      modules = 0;
      host = (site ((Operand (Constant (w.Number (pos 3)))) ∷ []));
      first = [];
      second = [];
      opening = lend 128 16 64;
      calls = ((lend 128 16 64, run false) ∷ []);
      check = (passes None);
      answers = ((ran (told 16 nothing 1 5) 2 [] []) ∷ []);
    }
    ∷  -- for-at-the-limit
    record {
      image = (82 ∷ 72 ∷ 83 ∷ 1 ∷ 0 ∷ 0 ∷ 1 ∷ 0 ∷ 2 ∷ 0 ∷ 2 ∷ 0 ∷ 9 ∷ 0 ∷ 0 ∷ 0 ∷ 2 ∷ 0 ∷ 4 ∷ 0 ∷ 1 ∷ 0 ∷ 1 ∷ 0 ∷ 0 ∷ 0 ∷ 0 ∷ 0 ∷ 0 ∷ 0 ∷ 0 ∷ 0 ∷ 1 ∷ 0 ∷ 0 ∷ 0 ∷ 0 ∷ 0 ∷ 9 ∷ 0 ∷ 2 ∷ 0 ∷ 1 ∷ 0 ∷ 1 ∷ 0 ∷ 255 ∷ 255 ∷ 0 ∷ 0 ∷ 1 ∷ 0 ∷ 1 ∷ 0 ∷ 0 ∷ 0 ∷ 0 ∷ 0 ∷ 0 ∷ 0 ∷ 1 ∷ 0 ∷ 5 ∷ 0 ∷ 0 ∷ 0 ∷ 0 ∷ 0 ∷ 2 ∷ 0 ∷ 5 ∷ 0 ∷ 0 ∷ 0 ∷ 97 ∷ 98 ∷ 99 ∷ 100 ∷ 101 ∷ 102 ∷ 97 ∷ 98 ∷ 99 ∷ []);
      text = (97 ∷ 98 ∷ 99 ∷ 113 ∷ []);
      operations = 50;
      names = 1;
      modules = 0;
      host = (scripted [] []);
      first = [];
      second = [];
      opening = lend 128 16 64;
      calls = ((lend 128 16 64, run false) ∷ []);
      check = (passes None);
      answers = ((ran (told 14 nothing 2 1) 3 ((variable (place Rule 0 1) ReadWrite v.Unit) ∷ []) []) ∷ []);
    }
    ∷  -- for-with-counter-and-one-name
    record {
      image = (82 ∷ 72 ∷ 83 ∷ 1 ∷ 0 ∷ 0 ∷ 1 ∷ 0 ∷ 1 ∷ 0 ∷ 1 ∷ 0 ∷ 9 ∷ 0 ∷ 0 ∷ 0 ∷ 1 ∷ 0 ∷ 9 ∷ 0 ∷ 1 ∷ 0 ∷ 1 ∷ 0 ∷ 0 ∷ 0 ∷ 255 ∷ 255 ∷ 0 ∷ 0 ∷ 0 ∷ 0 ∷ 1 ∷ 0 ∷ 1 ∷ 0 ∷ 1 ∷ 0 ∷ 0 ∷ 0 ∷ 1 ∷ 0 ∷ 5 ∷ 0 ∷ 0 ∷ 0 ∷ 97 ∷ 98 ∷ 99 ∷ 100 ∷ 101 ∷ 102 ∷ 97 ∷ 98 ∷ 99 ∷ []);
      text = (97 ∷ 98 ∷ 99 ∷ 113 ∷ []);
      operations = 50;
      names = 1;
      modules = 0;
      host = (scripted ((evaluation None None (eval.Value (v.Range (pos 0) (pos 1)))) ∷ []) []);
      first = [];
      second = [];
      opening = lend 128 16 64;
      calls = ((lend 128 16 64, run false) ∷ []);
      check = (passes None);
      answers = ((ran (told 14 nothing 1 1) 1 [] []) ∷ []);
    }
    ∷  -- for-is-iterable-before-the-second-limit
    record {
      image = (82 ∷ 72 ∷ 83 ∷ 1 ∷ 0 ∷ 0 ∷ 1 ∷ 0 ∷ 1 ∷ 0 ∷ 1 ∷ 0 ∷ 9 ∷ 0 ∷ 0 ∷ 0 ∷ 1 ∷ 0 ∷ 9 ∷ 0 ∷ 1 ∷ 0 ∷ 1 ∷ 0 ∷ 0 ∷ 0 ∷ 255 ∷ 255 ∷ 0 ∷ 0 ∷ 0 ∷ 0 ∷ 1 ∷ 0 ∷ 0 ∷ 0 ∷ 0 ∷ 0 ∷ 0 ∷ 0 ∷ 1 ∷ 0 ∷ 5 ∷ 0 ∷ 0 ∷ 0 ∷ 97 ∷ 98 ∷ 99 ∷ 100 ∷ 101 ∷ 102 ∷ 97 ∷ 98 ∷ 99 ∷ []);
      text = (97 ∷ 98 ∷ 99 ∷ 113 ∷ []);
      operations = 50;
      names = 1;
      modules = 0;
      host = (scripted ((evaluation (Some (Append (place Site 0 1) (v.Number (pos 1)))) None (eval.Value (v.Number (pos 5)))) ∷ []) []);
      first = [];
      second = [];
      opening = lend 128 16 64;
      calls = ((lend 128 16 64, run false) ∷ []);
      check = (passes None);
      answers = ((ran (told 16 nothing 1 5) 2 ((variable (place Site 0 1) ReadWrite (v.Number (pos 1))) ∷ []) []) ∷ []);
    }
    ∷  -- for-with-a-faulty-item
    record {
      image = (82 ∷ 72 ∷ 83 ∷ 1 ∷ 0 ∷ 0 ∷ 2 ∷ 0 ∷ 2 ∷ 0 ∷ 1 ∷ 0 ∷ 9 ∷ 0 ∷ 0 ∷ 0 ∷ 1 ∷ 0 ∷ 1 ∷ 0 ∷ 1 ∷ 0 ∷ 9 ∷ 0 ∷ 1 ∷ 0 ∷ 1 ∷ 0 ∷ 0 ∷ 0 ∷ 1 ∷ 0 ∷ 0 ∷ 0 ∷ 0 ∷ 0 ∷ 1 ∷ 0 ∷ 0 ∷ 0 ∷ 0 ∷ 0 ∷ 0 ∷ 0 ∷ 2 ∷ 0 ∷ 1 ∷ 0 ∷ 0 ∷ 0 ∷ 0 ∷ 0 ∷ 0 ∷ 0 ∷ 0 ∷ 0 ∷ 0 ∷ 0 ∷ 0 ∷ 0 ∷ 0 ∷ 0 ∷ 0 ∷ 0 ∷ 1 ∷ 0 ∷ 5 ∷ 0 ∷ 0 ∷ 0 ∷ 97 ∷ 98 ∷ 99 ∷ 100 ∷ 101 ∷ 102 ∷ 97 ∷ 98 ∷ 99 ∷ []);
      text = (97 ∷ 98 ∷ 99 ∷ 113 ∷ []);
      operations = 50;
      names = 10;
      modules = 0;
      host = (scripted ((evaluation None None (eval.Value (v.Seq 113))) ∷ []) []);
      first = [];
      second = [];
      opening = lend 128 16 64;
      calls = ((lend 128 16 64, run false) ∷ []);
      check = (passes None);
      answers = ((ran (told 25 (code 61) 1 5) 3 [] []) ∷ []);
    }
    ∷  -- for-with-a-faulty-item-of-its-own-position
    record {
      image = (82 ∷ 72 ∷ 83 ∷ 1 ∷ 0 ∷ 0 ∷ 2 ∷ 0 ∷ 2 ∷ 0 ∷ 1 ∷ 0 ∷ 9 ∷ 0 ∷ 0 ∷ 0 ∷ 1 ∷ 0 ∷ 1 ∷ 0 ∷ 1 ∷ 0 ∷ 9 ∷ 0 ∷ 1 ∷ 0 ∷ 1 ∷ 0 ∷ 0 ∷ 0 ∷ 1 ∷ 0 ∷ 0 ∷ 0 ∷ 0 ∷ 0 ∷ 1 ∷ 0 ∷ 0 ∷ 0 ∷ 0 ∷ 0 ∷ 0 ∷ 0 ∷ 2 ∷ 0 ∷ 1 ∷ 0 ∷ 0 ∷ 0 ∷ 0 ∷ 0 ∷ 0 ∷ 0 ∷ 0 ∷ 0 ∷ 0 ∷ 0 ∷ 0 ∷ 0 ∷ 0 ∷ 0 ∷ 0 ∷ 0 ∷ 1 ∷ 0 ∷ 5 ∷ 0 ∷ 0 ∷ 0 ∷ 97 ∷ 98 ∷ 99 ∷ 100 ∷ 101 ∷ 102 ∷ 97 ∷ 98 ∷ 99 ∷ []);
      text = (97 ∷ 98 ∷ 99 ∷ 113 ∷ []);
      operations = 50;
      names = 10;
      modules = 0;
      host = (scripted ((evaluation None None (eval.Value (v.Seq 201))) ∷ []) []);
      first = [];
      second = [];
      opening = lend 128 16 64;
      calls = ((lend 128 16 64, run false) ∷ []);
      check = (passes None);
      answers = ((ran (told 25 (code 62) 90 91) 2 [] []) ∷ []);
    }
    ∷  -- for-with-a-faulty-item-that-cannot-be-caught
    record {
      image = (82 ∷ 72 ∷ 83 ∷ 1 ∷ 0 ∷ 0 ∷ 3 ∷ 0 ∷ 3 ∷ 0 ∷ 1 ∷ 0 ∷ 9 ∷ 0 ∷ 0 ∷ 0 ∷ 1 ∷ 0 ∷ 1 ∷ 0 ∷ 1 ∷ 0 ∷ 2 ∷ 0 ∷ 1 ∷ 0 ∷ 11 ∷ 0 ∷ 1 ∷ 0 ∷ 1 ∷ 0 ∷ 0 ∷ 0 ∷ 1 ∷ 0 ∷ 255 ∷ 255 ∷ 4 ∷ 0 ∷ 1 ∷ 0 ∷ 0 ∷ 0 ∷ 0 ∷ 0 ∷ 9 ∷ 0 ∷ 2 ∷ 0 ∷ 1 ∷ 0 ∷ 0 ∷ 0 ∷ 2 ∷ 0 ∷ 0 ∷ 0 ∷ 0 ∷ 0 ∷ 1 ∷ 0 ∷ 0 ∷ 0 ∷ 0 ∷ 0 ∷ 0 ∷ 0 ∷ 3 ∷ 0 ∷ 1 ∷ 0 ∷ 0 ∷ 0 ∷ 0 ∷ 0 ∷ 0 ∷ 0 ∷ 0 ∷ 0 ∷ 0 ∷ 0 ∷ 0 ∷ 0 ∷ 0 ∷ 0 ∷ 0 ∷ 0 ∷ 2 ∷ 0 ∷ 5 ∷ 0 ∷ 0 ∷ 0 ∷ 97 ∷ 98 ∷ 99 ∷ 100 ∷ 101 ∷ 102 ∷ 97 ∷ 98 ∷ 99 ∷ []);
      text = (97 ∷ 98 ∷ 99 ∷ 113 ∷ []);
      operations = 50;
      names = 10;
      modules = 0;
      host = (scripted ((evaluation None None (eval.Value (v.Seq 902))) ∷ []) []);
      first = [];
      second = [];
      opening = lend 128 16 64;
      calls = ((lend 128 16 64, run false) ∷ []);
      check = (passes None);
      answers = ((ran (told 25 (code 63) 2 5) 3 [] []) ∷ []);
    }
    ∷  -- for-with-a-faulty-item-past-the-end
    record {
      image = (82 ∷ 72 ∷ 83 ∷ 1 ∷ 0 ∷ 0 ∷ 2 ∷ 0 ∷ 2 ∷ 0 ∷ 1 ∷ 0 ∷ 9 ∷ 0 ∷ 0 ∷ 0 ∷ 1 ∷ 0 ∷ 1 ∷ 0 ∷ 1 ∷ 0 ∷ 9 ∷ 0 ∷ 1 ∷ 0 ∷ 1 ∷ 0 ∷ 0 ∷ 0 ∷ 1 ∷ 0 ∷ 0 ∷ 0 ∷ 0 ∷ 0 ∷ 1 ∷ 0 ∷ 0 ∷ 0 ∷ 0 ∷ 0 ∷ 0 ∷ 0 ∷ 2 ∷ 0 ∷ 1 ∷ 0 ∷ 0 ∷ 0 ∷ 0 ∷ 0 ∷ 0 ∷ 0 ∷ 0 ∷ 0 ∷ 0 ∷ 0 ∷ 0 ∷ 0 ∷ 0 ∷ 0 ∷ 0 ∷ 0 ∷ 1 ∷ 0 ∷ 5 ∷ 0 ∷ 0 ∷ 0 ∷ 97 ∷ 98 ∷ 99 ∷ 100 ∷ 101 ∷ 102 ∷ 97 ∷ 98 ∷ 99 ∷ []);
      text = (97 ∷ 98 ∷ 99 ∷ 113 ∷ []);
      operations = 50;
      names = 10;
      modules = 0;
      host = (scripted ((evaluation None None (eval.Value (v.Seq 122))) ∷ []) []);
      first = [];
      second = [];
      opening = lend 128 16 64;
      calls = ((lend 128 16 64, run false) ∷ []);
      check = (passes None);
      answers = ((ran (told 0 (value v.Unit) 0 0) 4 [] []) ∷ []);
    }
    ∷  -- for-over-no-sequence
    record {
      image = (82 ∷ 72 ∷ 83 ∷ 1 ∷ 0 ∷ 0 ∷ 2 ∷ 0 ∷ 2 ∷ 0 ∷ 1 ∷ 0 ∷ 9 ∷ 0 ∷ 0 ∷ 0 ∷ 1 ∷ 0 ∷ 1 ∷ 0 ∷ 1 ∷ 0 ∷ 9 ∷ 0 ∷ 1 ∷ 0 ∷ 1 ∷ 0 ∷ 0 ∷ 0 ∷ 1 ∷ 0 ∷ 0 ∷ 0 ∷ 0 ∷ 0 ∷ 1 ∷ 0 ∷ 0 ∷ 0 ∷ 0 ∷ 0 ∷ 0 ∷ 0 ∷ 2 ∷ 0 ∷ 1 ∷ 0 ∷ 0 ∷ 0 ∷ 0 ∷ 0 ∷ 0 ∷ 0 ∷ 0 ∷ 0 ∷ 0 ∷ 0 ∷ 0 ∷ 0 ∷ 0 ∷ 0 ∷ 0 ∷ 0 ∷ 1 ∷ 0 ∷ 5 ∷ 0 ∷ 0 ∷ 0 ∷ 97 ∷ 98 ∷ 99 ∷ 100 ∷ 101 ∷ 102 ∷ 97 ∷ 98 ∷ 99 ∷ []);
      text = (97 ∷ 98 ∷ 99 ∷ 113 ∷ []);
      operations = 50;
      names = 10;
      modules = 0;
      host = (scripted ((evaluation None None (eval.Value (v.Seq 1000))) ∷ []) []);
      first = [];
      second = [];
      opening = lend 128 16 64;
      calls = ((lend 128 16 64, run false) ∷ []);
      check = (passes None);
      answers = ((ran (told 16 nothing 1 5) 2 [] []) ∷ []);
    }
    ∷  -- for-over-the-longest-sequence
    record {
      image = (82 ∷ 72 ∷ 83 ∷ 1 ∷ 0 ∷ 0 ∷ 2 ∷ 0 ∷ 2 ∷ 0 ∷ 2 ∷ 0 ∷ 9 ∷ 0 ∷ 0 ∷ 0 ∷ 1 ∷ 0 ∷ 1 ∷ 0 ∷ 1 ∷ 0 ∷ 9 ∷ 0 ∷ 1 ∷ 0 ∷ 1 ∷ 0 ∷ 0 ∷ 0 ∷ 1 ∷ 0 ∷ 0 ∷ 0 ∷ 0 ∷ 0 ∷ 1 ∷ 0 ∷ 1 ∷ 0 ∷ 1 ∷ 0 ∷ 3 ∷ 0 ∷ 2 ∷ 0 ∷ 1 ∷ 0 ∷ 1 ∷ 0 ∷ 0 ∷ 0 ∷ 0 ∷ 0 ∷ 2 ∷ 0 ∷ 1 ∷ 0 ∷ 0 ∷ 0 ∷ 0 ∷ 0 ∷ 0 ∷ 0 ∷ 1 ∷ 0 ∷ 5 ∷ 0 ∷ 0 ∷ 0 ∷ 0 ∷ 0 ∷ 2 ∷ 0 ∷ 5 ∷ 0 ∷ 0 ∷ 0 ∷ 97 ∷ 98 ∷ 99 ∷ 100 ∷ 101 ∷ 102 ∷ 97 ∷ 98 ∷ 99 ∷ []);
      text = (97 ∷ 98 ∷ 99 ∷ 113 ∷ []);
      operations = 50;
      names = 10;
      modules = 0;
      host = (scripted ((evaluation None None (eval.Value (v.Seq 99))) ∷ (evaluation None None (eval.Row 1)) ∷ []) []);
      first = [];
      second = [];
      opening = lend 128 16 64;
      calls = ((lend 128 16 64, put 2 1 v.Unit) ∷ (lend 128 16 64, run false) ∷ []);
      check = (passes None);
      answers = (made ∷ (ran (told 0 (value v.Unit) 0 0) 29 ((variable (place Site 2 1) ReadWrite (v.Number (pos 80))) ∷ []) []) ∷ []);
    }
    ∷  -- for-sets-its-name-again-after-a-constant
    record {
      image = (82 ∷ 72 ∷ 83 ∷ 1 ∷ 0 ∷ 0 ∷ 2 ∷ 0 ∷ 3 ∷ 0 ∷ 3 ∷ 0 ∷ 9 ∷ 0 ∷ 0 ∷ 0 ∷ 2 ∷ 0 ∷ 2 ∷ 0 ∷ 1 ∷ 0 ∷ 9 ∷ 0 ∷ 1 ∷ 0 ∷ 1 ∷ 0 ∷ 0 ∷ 0 ∷ 1 ∷ 0 ∷ 0 ∷ 0 ∷ 0 ∷ 0 ∷ 1 ∷ 0 ∷ 0 ∷ 0 ∷ 0 ∷ 0 ∷ 1 ∷ 0 ∷ 2 ∷ 0 ∷ 1 ∷ 0 ∷ 1 ∷ 0 ∷ 0 ∷ 0 ∷ 0 ∷ 0 ∷ 0 ∷ 0 ∷ 0 ∷ 0 ∷ 0 ∷ 0 ∷ 0 ∷ 0 ∷ 4 ∷ 1 ∷ 3 ∷ 0 ∷ 1 ∷ 0 ∷ 2 ∷ 0 ∷ 0 ∷ 0 ∷ 0 ∷ 0 ∷ 0 ∷ 0 ∷ 1 ∷ 0 ∷ 1 ∷ 0 ∷ 0 ∷ 0 ∷ 0 ∷ 0 ∷ 1 ∷ 0 ∷ 5 ∷ 0 ∷ 0 ∷ 0 ∷ 0 ∷ 0 ∷ 2 ∷ 0 ∷ 5 ∷ 0 ∷ 0 ∷ 0 ∷ 0 ∷ 0 ∷ 3 ∷ 0 ∷ 5 ∷ 0 ∷ 0 ∷ 0 ∷ 97 ∷ 98 ∷ 99 ∷ 100 ∷ 101 ∷ 102 ∷ 97 ∷ 98 ∷ 99 ∷ []);
      text = (97 ∷ 98 ∷ 99 ∷ 113 ∷ []);
      operations = 50;
      names = 10;
      modules = 0;
      host = (scripted ((evaluation None None (eval.Value (v.Range (pos 0) (pos 2)))) ∷ (evaluation None None (eval.Value (v.Number (pos 5)))) ∷ []) []);
      first = [];
      second = [];
      opening = lend 128 16 64;
      calls = ((lend 128 16 64, run false) ∷ []);
      check = (passes None);
      answers = ((ran (told 0 (value (v.Number (pos 5))) 0 0) 8 [] []) ∷ []);
    }
    ∷  -- names-appended-by-the-subject-stay
    record {
      image = (82 ∷ 72 ∷ 83 ∷ 1 ∷ 0 ∷ 0 ∷ 2 ∷ 0 ∷ 3 ∷ 0 ∷ 3 ∷ 0 ∷ 9 ∷ 0 ∷ 0 ∷ 0 ∷ 2 ∷ 0 ∷ 2 ∷ 0 ∷ 1 ∷ 0 ∷ 9 ∷ 0 ∷ 1 ∷ 0 ∷ 1 ∷ 0 ∷ 0 ∷ 0 ∷ 1 ∷ 0 ∷ 0 ∷ 0 ∷ 0 ∷ 0 ∷ 1 ∷ 0 ∷ 0 ∷ 0 ∷ 0 ∷ 0 ∷ 1 ∷ 0 ∷ 2 ∷ 0 ∷ 1 ∷ 0 ∷ 1 ∷ 0 ∷ 0 ∷ 0 ∷ 0 ∷ 0 ∷ 0 ∷ 0 ∷ 0 ∷ 0 ∷ 0 ∷ 0 ∷ 0 ∷ 0 ∷ 3 ∷ 0 ∷ 3 ∷ 0 ∷ 1 ∷ 0 ∷ 2 ∷ 0 ∷ 0 ∷ 0 ∷ 0 ∷ 0 ∷ 0 ∷ 0 ∷ 1 ∷ 0 ∷ 1 ∷ 0 ∷ 0 ∷ 0 ∷ 0 ∷ 0 ∷ 1 ∷ 0 ∷ 5 ∷ 0 ∷ 0 ∷ 0 ∷ 0 ∷ 0 ∷ 2 ∷ 0 ∷ 5 ∷ 0 ∷ 0 ∷ 0 ∷ 0 ∷ 0 ∷ 3 ∷ 0 ∷ 5 ∷ 0 ∷ 0 ∷ 0 ∷ 97 ∷ 98 ∷ 99 ∷ 100 ∷ 101 ∷ 102 ∷ 97 ∷ 98 ∷ 99 ∷ []);
      text = (97 ∷ 98 ∷ 99 ∷ 113 ∷ []);
      operations = 50;
      names = 10;
      modules = 0;
      host = (scripted ((evaluation (Some (Append (place Site 3 1) (v.Number (pos 1)))) None (eval.Value (v.Range (pos 0) (pos 1)))) ∷ (evaluation None None (eval.Value (v.Number (pos 2)))) ∷ (evaluation None None eval.Mark) ∷ []) []);
      first = [];
      second = [];
      opening = lend 128 16 64;
      calls = ((lend 128 16 64, run false) ∷ []);
      check = (passes None);
      answers = ((ran (told 0 (value (v.Truth true)) 0 0) 7 ((variable (place Site 3 1) ReadWrite (v.Number (pos 1))) ∷ []) []) ∷ []);
    }
    ∷  -- for-broken-with-a-value
    record {
      image = (82 ∷ 72 ∷ 83 ∷ 1 ∷ 0 ∷ 0 ∷ 2 ∷ 0 ∷ 2 ∷ 0 ∷ 2 ∷ 0 ∷ 9 ∷ 0 ∷ 0 ∷ 0 ∷ 1 ∷ 0 ∷ 1 ∷ 0 ∷ 1 ∷ 0 ∷ 9 ∷ 0 ∷ 1 ∷ 0 ∷ 1 ∷ 0 ∷ 0 ∷ 0 ∷ 1 ∷ 0 ∷ 0 ∷ 0 ∷ 0 ∷ 0 ∷ 1 ∷ 0 ∷ 0 ∷ 0 ∷ 0 ∷ 0 ∷ 10 ∷ 8 ∷ 2 ∷ 0 ∷ 1 ∷ 0 ∷ 1 ∷ 0 ∷ 0 ∷ 0 ∷ 0 ∷ 0 ∷ 0 ∷ 0 ∷ 0 ∷ 0 ∷ 0 ∷ 0 ∷ 0 ∷ 0 ∷ 0 ∷ 0 ∷ 1 ∷ 0 ∷ 5 ∷ 0 ∷ 0 ∷ 0 ∷ 0 ∷ 0 ∷ 2 ∷ 0 ∷ 5 ∷ 0 ∷ 1 ∷ 0 ∷ 97 ∷ 98 ∷ 99 ∷ 100 ∷ 101 ∷ 102 ∷ 97 ∷ 98 ∷ 99 ∷ []);
      text = (97 ∷ 98 ∷ 99 ∷ 113 ∷ []);
      operations = 50;
      names = 10;
      modules = 0;
      host = (site ((Operand (Constant (w.Range (pos 0) (pos 5)))) ∷ (Operand (Variable (place Rule 0 1))) ∷ []));
      first = [];
      second = [];
      opening = lend 128 16 64;
      calls = ((lend 128 16 64, run false) ∷ []);
      check = (passes None);
      answers = ((ran (told 0 (value (v.Number (pos 0))) 0 0) 4 [] []) ∷ []);
    }
    ∷  -- counter-of-the-third-item
    record {
      image = (82 ∷ 72 ∷ 83 ∷ 1 ∷ 0 ∷ 0 ∷ 3 ∷ 0 ∷ 3 ∷ 0 ∷ 3 ∷ 0 ∷ 9 ∷ 0 ∷ 0 ∷ 0 ∷ 1 ∷ 0 ∷ 1 ∷ 0 ∷ 1 ∷ 0 ∷ 2 ∷ 0 ∷ 1 ∷ 0 ∷ 9 ∷ 0 ∷ 1 ∷ 0 ∷ 1 ∷ 0 ∷ 0 ∷ 0 ∷ 1 ∷ 0 ∷ 0 ∷ 0 ∷ 0 ∷ 0 ∷ 1 ∷ 0 ∷ 1 ∷ 0 ∷ 1 ∷ 0 ∷ 5 ∷ 0 ∷ 2 ∷ 0 ∷ 1 ∷ 0 ∷ 1 ∷ 0 ∷ 2 ∷ 0 ∷ 255 ∷ 255 ∷ 0 ∷ 0 ∷ 0 ∷ 0 ∷ 0 ∷ 0 ∷ 0 ∷ 0 ∷ 10 ∷ 8 ∷ 3 ∷ 0 ∷ 1 ∷ 0 ∷ 2 ∷ 0 ∷ 0 ∷ 0 ∷ 0 ∷ 0 ∷ 0 ∷ 0 ∷ 0 ∷ 0 ∷ 0 ∷ 0 ∷ 0 ∷ 0 ∷ 0 ∷ 0 ∷ 1 ∷ 0 ∷ 5 ∷ 0 ∷ 0 ∷ 0 ∷ 0 ∷ 0 ∷ 2 ∷ 0 ∷ 5 ∷ 0 ∷ 1 ∷ 0 ∷ 0 ∷ 0 ∷ 3 ∷ 0 ∷ 5 ∷ 0 ∷ 2 ∷ 0 ∷ 97 ∷ 98 ∷ 99 ∷ 100 ∷ 101 ∷ 102 ∷ 97 ∷ 98 ∷ 99 ∷ []);
      text = (97 ∷ 98 ∷ 99 ∷ 113 ∷ []);
      operations = 50;
      names = 10;
      modules = 0;
      host = (site ((Operand (Constant (w.Range (pos 5) (pos 9)))) ∷ (Binary Equal (Variable (place Rule 0 1)) (Constant (w.Number (pos 7)))) ∷ (Operand (Variable (place Rule 1 1))) ∷ []));
      first = [];
      second = [];
      opening = lend 128 16 64;
      calls = ((lend 128 16 64, run false) ∷ []);
      check = (passes None);
      answers = ((ran (told 0 (value (v.Number (pos 2))) 0 0) 10 [] []) ∷ []);
    }
    ∷  -- counter-set-again-for-each-item
    record {
      image = (82 ∷ 72 ∷ 83 ∷ 1 ∷ 0 ∷ 0 ∷ 2 ∷ 0 ∷ 3 ∷ 0 ∷ 3 ∷ 0 ∷ 9 ∷ 0 ∷ 0 ∷ 0 ∷ 1 ∷ 0 ∷ 1 ∷ 0 ∷ 2 ∷ 0 ∷ 9 ∷ 0 ∷ 1 ∷ 0 ∷ 1 ∷ 0 ∷ 0 ∷ 0 ∷ 1 ∷ 0 ∷ 0 ∷ 0 ∷ 0 ∷ 0 ∷ 1 ∷ 0 ∷ 1 ∷ 0 ∷ 1 ∷ 0 ∷ 3 ∷ 0 ∷ 2 ∷ 0 ∷ 1 ∷ 0 ∷ 1 ∷ 0 ∷ 0 ∷ 0 ∷ 0 ∷ 0 ∷ 1 ∷ 0 ∷ 1 ∷ 0 ∷ 0 ∷ 0 ∷ 0 ∷ 0 ∷ 1 ∷ 0 ∷ 3 ∷ 0 ∷ 1 ∷ 0 ∷ 2 ∷ 0 ∷ 0 ∷ 0 ∷ 0 ∷ 0 ∷ 0 ∷ 0 ∷ 0 ∷ 0 ∷ 0 ∷ 0 ∷ 0 ∷ 0 ∷ 0 ∷ 0 ∷ 1 ∷ 0 ∷ 5 ∷ 0 ∷ 0 ∷ 0 ∷ 0 ∷ 0 ∷ 2 ∷ 0 ∷ 5 ∷ 0 ∷ 1 ∷ 0 ∷ 0 ∷ 0 ∷ 3 ∷ 0 ∷ 5 ∷ 0 ∷ 2 ∷ 0 ∷ 97 ∷ 98 ∷ 99 ∷ 100 ∷ 101 ∷ 102 ∷ 97 ∷ 98 ∷ 99 ∷ []);
      text = (97 ∷ 98 ∷ 99 ∷ 113 ∷ []);
      operations = 50;
      names = 10;
      modules = 0;
      host = (scripted ((evaluation None None (eval.Value (v.Range (pos 0) (pos 2)))) ∷ (evaluation None None (eval.Row 2)) ∷ (evaluation (Some (Set 2 (v.Number (pos 9)))) None (eval.Value v.Unit)) ∷ (evaluation None None (eval.Row 2)) ∷ (evaluation None None (eval.Exit (v.Number (pos 5)))) ∷ []) []);
      first = [];
      second = [];
      opening = lend 128 16 64;
      calls = ((lend 128 16 64, run false) ∷ []);
      check = (passes None);
      answers = ((ran (told 26 (value (v.Number (pos 5))) 3 5) 12 [] []) ∷ []);
    }
    ∷  -- counters-in-turn
    record {
      image = (82 ∷ 72 ∷ 83 ∷ 1 ∷ 0 ∷ 0 ∷ 2 ∷ 0 ∷ 3 ∷ 0 ∷ 3 ∷ 0 ∷ 9 ∷ 0 ∷ 0 ∷ 0 ∷ 2 ∷ 0 ∷ 2 ∷ 0 ∷ 1 ∷ 0 ∷ 9 ∷ 0 ∷ 1 ∷ 0 ∷ 1 ∷ 0 ∷ 0 ∷ 0 ∷ 1 ∷ 0 ∷ 0 ∷ 0 ∷ 0 ∷ 0 ∷ 1 ∷ 0 ∷ 1 ∷ 0 ∷ 1 ∷ 0 ∷ 1 ∷ 0 ∷ 2 ∷ 0 ∷ 1 ∷ 0 ∷ 1 ∷ 0 ∷ 0 ∷ 0 ∷ 0 ∷ 0 ∷ 0 ∷ 0 ∷ 0 ∷ 0 ∷ 0 ∷ 0 ∷ 0 ∷ 0 ∷ 3 ∷ 0 ∷ 3 ∷ 0 ∷ 1 ∷ 0 ∷ 2 ∷ 0 ∷ 0 ∷ 0 ∷ 0 ∷ 0 ∷ 2 ∷ 0 ∷ 1 ∷ 0 ∷ 0 ∷ 0 ∷ 0 ∷ 0 ∷ 0 ∷ 0 ∷ 1 ∷ 0 ∷ 5 ∷ 0 ∷ 0 ∷ 0 ∷ 0 ∷ 0 ∷ 2 ∷ 0 ∷ 5 ∷ 0 ∷ 0 ∷ 0 ∷ 0 ∷ 0 ∷ 3 ∷ 0 ∷ 5 ∷ 0 ∷ 0 ∷ 0 ∷ 97 ∷ 98 ∷ 99 ∷ 100 ∷ 101 ∷ 102 ∷ 97 ∷ 98 ∷ 99 ∷ []);
      text = (97 ∷ 98 ∷ 99 ∷ 113 ∷ []);
      operations = 50;
      names = 10;
      modules = 0;
      host = (scripted ((evaluation None None (eval.Value (v.Range (pos 4) (pos 6)))) ∷ (evaluation None None (eval.Row 2)) ∷ []) []);
      first = [];
      second = [];
      opening = lend 128 16 64;
      calls = ((lend 128 16 64, put 2 1 v.Unit) ∷ (lend 128 16 64, run false) ∷ []);
      check = (passes None);
      answers = (made ∷ (ran (told 0 (value v.Unit) 0 0) 10 ((variable (place Site 2 1) ReadWrite (v.Range (pos 4) (pos 6))) ∷ []) []) ∷ []);
    }
    ∷  -- counters-of-loops-in-loops
    record {
      image = (82 ∷ 72 ∷ 83 ∷ 1 ∷ 0 ∷ 0 ∷ 3 ∷ 0 ∷ 3 ∷ 0 ∷ 3 ∷ 0 ∷ 9 ∷ 0 ∷ 0 ∷ 0 ∷ 1 ∷ 0 ∷ 1 ∷ 0 ∷ 1 ∷ 0 ∷ 2 ∷ 0 ∷ 1 ∷ 0 ∷ 9 ∷ 0 ∷ 1 ∷ 0 ∷ 1 ∷ 0 ∷ 0 ∷ 0 ∷ 1 ∷ 0 ∷ 0 ∷ 0 ∷ 0 ∷ 0 ∷ 1 ∷ 0 ∷ 1 ∷ 0 ∷ 1 ∷ 0 ∷ 9 ∷ 0 ∷ 2 ∷ 0 ∷ 1 ∷ 0 ∷ 1 ∷ 0 ∷ 2 ∷ 0 ∷ 0 ∷ 0 ∷ 2 ∷ 0 ∷ 1 ∷ 0 ∷ 3 ∷ 0 ∷ 1 ∷ 0 ∷ 3 ∷ 0 ∷ 3 ∷ 0 ∷ 1 ∷ 0 ∷ 2 ∷ 0 ∷ 0 ∷ 0 ∷ 0 ∷ 0 ∷ 4 ∷ 0 ∷ 1 ∷ 0 ∷ 1 ∷ 0 ∷ 0 ∷ 0 ∷ 0 ∷ 0 ∷ 1 ∷ 0 ∷ 5 ∷ 0 ∷ 0 ∷ 0 ∷ 0 ∷ 0 ∷ 2 ∷ 0 ∷ 5 ∷ 0 ∷ 0 ∷ 0 ∷ 0 ∷ 0 ∷ 3 ∷ 0 ∷ 5 ∷ 0 ∷ 1 ∷ 0 ∷ 97 ∷ 98 ∷ 99 ∷ 100 ∷ 101 ∷ 102 ∷ 97 ∷ 98 ∷ 99 ∷ []);
      text = (97 ∷ 98 ∷ 99 ∷ 113 ∷ []);
      operations = 90;
      names = 10;
      modules = 0;
      host = (site ((Operand (Constant (w.Range (pos 0) (pos 3)))) ∷ (Binary Add (Variable (place Rule 1 1)) (Variable (place Rule 3 1))) ∷ []));
      first = [];
      second = [];
      opening = lend 128 16 64;
      calls = ((lend 128 16 64, run false) ∷ []);
      check = (passes None);
      answers = ((ran (told 0 (value v.Unit) 0 0) 35 [] []) ∷ []);
    }
    ∷  -- counter-beside-the-outer-name
    record {
      image = (82 ∷ 72 ∷ 83 ∷ 1 ∷ 0 ∷ 0 ∷ 2 ∷ 0 ∷ 2 ∷ 0 ∷ 2 ∷ 0 ∷ 9 ∷ 0 ∷ 0 ∷ 0 ∷ 1 ∷ 0 ∷ 1 ∷ 0 ∷ 1 ∷ 0 ∷ 9 ∷ 0 ∷ 1 ∷ 0 ∷ 1 ∷ 0 ∷ 0 ∷ 0 ∷ 1 ∷ 0 ∷ 0 ∷ 0 ∷ 0 ∷ 0 ∷ 1 ∷ 0 ∷ 1 ∷ 0 ∷ 1 ∷ 0 ∷ 3 ∷ 0 ∷ 2 ∷ 0 ∷ 1 ∷ 0 ∷ 1 ∷ 0 ∷ 0 ∷ 0 ∷ 0 ∷ 0 ∷ 2 ∷ 0 ∷ 1 ∷ 0 ∷ 0 ∷ 0 ∷ 0 ∷ 0 ∷ 0 ∷ 0 ∷ 1 ∷ 0 ∷ 5 ∷ 0 ∷ 0 ∷ 0 ∷ 0 ∷ 0 ∷ 2 ∷ 0 ∷ 5 ∷ 0 ∷ 1 ∷ 0 ∷ 97 ∷ 98 ∷ 99 ∷ 100 ∷ 101 ∷ 102 ∷ 97 ∷ 98 ∷ 99 ∷ []);
      text = (97 ∷ 98 ∷ 99 ∷ 113 ∷ []);
      operations = 90;
      names = 10;
      modules = 0;
      host = (site ((Operand (Constant (w.Range (pos 7) (pos 10)))) ∷ (Binary Subtract (Variable (place Rule 0 1)) (Variable (place Rule 1 1))) ∷ []));
      first = [];
      second = [];
      opening = lend 128 16 64;
      calls = ((lend 128 16 64, put 2 1 v.Unit) ∷ (lend 128 16 64, run false) ∷ (lend 128 16 64, read 2 1) ∷ (lend 128 16 64, run false) ∷ []);
      check = (passes None);
      answers = (made ∷ (ran (told 0 (value v.Unit) 0 0) 11 ((variable (place Site 2 1) ReadWrite (v.Number (pos 7))) ∷ []) []) ∷ (got (Some (v.Number (pos 7)))) ∷ (ran (told 0 (value v.Unit) 0 0) 11 ((variable (place Site 2 1) ReadWrite (v.Number (pos 7))) ∷ []) []) ∷ []);
    }
    ∷  -- counter-goes-on-after-continue
    record {
      image = (82 ∷ 72 ∷ 83 ∷ 1 ∷ 0 ∷ 0 ∷ 2 ∷ 0 ∷ 4 ∷ 0 ∷ 2 ∷ 0 ∷ 9 ∷ 0 ∷ 0 ∷ 0 ∷ 1 ∷ 0 ∷ 1 ∷ 0 ∷ 3 ∷ 0 ∷ 9 ∷ 0 ∷ 1 ∷ 0 ∷ 1 ∷ 0 ∷ 0 ∷ 0 ∷ 1 ∷ 0 ∷ 0 ∷ 0 ∷ 0 ∷ 0 ∷ 1 ∷ 0 ∷ 1 ∷ 0 ∷ 1 ∷ 0 ∷ 3 ∷ 0 ∷ 2 ∷ 0 ∷ 1 ∷ 0 ∷ 1 ∷ 0 ∷ 0 ∷ 0 ∷ 0 ∷ 0 ∷ 2 ∷ 0 ∷ 1 ∷ 0 ∷ 0 ∷ 0 ∷ 0 ∷ 0 ∷ 10 ∷ 0 ∷ 3 ∷ 0 ∷ 1 ∷ 0 ∷ 255 ∷ 255 ∷ 0 ∷ 0 ∷ 0 ∷ 0 ∷ 0 ∷ 0 ∷ 0 ∷ 0 ∷ 0 ∷ 0 ∷ 0 ∷ 0 ∷ 0 ∷ 0 ∷ 4 ∷ 0 ∷ 1 ∷ 0 ∷ 0 ∷ 0 ∷ 0 ∷ 0 ∷ 0 ∷ 0 ∷ 0 ∷ 0 ∷ 0 ∷ 0 ∷ 0 ∷ 0 ∷ 0 ∷ 0 ∷ 0 ∷ 0 ∷ 1 ∷ 0 ∷ 5 ∷ 0 ∷ 0 ∷ 0 ∷ 0 ∷ 0 ∷ 2 ∷ 0 ∷ 5 ∷ 0 ∷ 1 ∷ 0 ∷ 97 ∷ 98 ∷ 99 ∷ 100 ∷ 101 ∷ 102 ∷ 97 ∷ 98 ∷ 99 ∷ []);
      text = (97 ∷ 98 ∷ 99 ∷ 113 ∷ []);
      operations = 90;
      names = 10;
      modules = 0;
      host = (site ((Operand (Constant (w.Range (pos 0) (pos 4)))) ∷ (Operand (Variable (place Rule 1 1))) ∷ []));
      first = [];
      second = [];
      opening = lend 128 16 64;
      calls = ((lend 128 16 64, put 2 1 v.Unit) ∷ (lend 128 16 64, run false) ∷ []);
      check = (passes None);
      answers = (made ∷ (ran (told 0 (value v.Unit) 0 0) 18 ((variable (place Site 2 1) ReadWrite (v.Number (pos 3))) ∷ []) []) ∷ []);
    }
    ∷  -- counter-when-the-limit-strikes
    record {
      image = (82 ∷ 72 ∷ 83 ∷ 1 ∷ 0 ∷ 0 ∷ 2 ∷ 0 ∷ 2 ∷ 0 ∷ 2 ∷ 0 ∷ 9 ∷ 0 ∷ 0 ∷ 0 ∷ 1 ∷ 0 ∷ 1 ∷ 0 ∷ 1 ∷ 0 ∷ 9 ∷ 0 ∷ 1 ∷ 0 ∷ 1 ∷ 0 ∷ 0 ∷ 0 ∷ 1 ∷ 0 ∷ 0 ∷ 0 ∷ 0 ∷ 0 ∷ 1 ∷ 0 ∷ 1 ∷ 0 ∷ 1 ∷ 0 ∷ 3 ∷ 0 ∷ 2 ∷ 0 ∷ 1 ∷ 0 ∷ 1 ∷ 0 ∷ 0 ∷ 0 ∷ 0 ∷ 0 ∷ 2 ∷ 0 ∷ 1 ∷ 0 ∷ 0 ∷ 0 ∷ 0 ∷ 0 ∷ 0 ∷ 0 ∷ 1 ∷ 0 ∷ 5 ∷ 0 ∷ 0 ∷ 0 ∷ 0 ∷ 0 ∷ 2 ∷ 0 ∷ 5 ∷ 0 ∷ 1 ∷ 0 ∷ 97 ∷ 98 ∷ 99 ∷ 100 ∷ 101 ∷ 102 ∷ 97 ∷ 98 ∷ 99 ∷ []);
      text = (97 ∷ 98 ∷ 99 ∷ 113 ∷ []);
      operations = 13;
      names = 10;
      modules = 0;
      host = (site ((Operand (Constant (w.Range (pos 0) (pos 9)))) ∷ (Operand (Variable (place Rule 1 1))) ∷ []));
      first = [];
      second = [];
      opening = lend 128 16 64;
      calls = ((lend 128 16 64, put 2 1 v.Unit) ∷ (lend 128 16 64, run false) ∷ []);
      check = (passes None);
      answers = (made ∷ (ran (told 12 nothing 2 1) 14 ((variable (place Site 2 1) ReadWrite (v.Number (pos 2))) ∷ []) []) ∷ []);
    }
    ∷  -- counter-when-caught
    record {
      image = (82 ∷ 72 ∷ 83 ∷ 1 ∷ 0 ∷ 0 ∷ 4 ∷ 0 ∷ 4 ∷ 0 ∷ 3 ∷ 0 ∷ 9 ∷ 0 ∷ 0 ∷ 0 ∷ 1 ∷ 0 ∷ 1 ∷ 0 ∷ 1 ∷ 0 ∷ 2 ∷ 0 ∷ 1 ∷ 0 ∷ 3 ∷ 0 ∷ 1 ∷ 0 ∷ 11 ∷ 0 ∷ 1 ∷ 0 ∷ 1 ∷ 0 ∷ 0 ∷ 0 ∷ 1 ∷ 0 ∷ 2 ∷ 0 ∷ 2 ∷ 0 ∷ 1 ∷ 0 ∷ 0 ∷ 0 ∷ 0 ∷ 0 ∷ 9 ∷ 0 ∷ 2 ∷ 0 ∷ 1 ∷ 0 ∷ 0 ∷ 0 ∷ 3 ∷ 0 ∷ 0 ∷ 0 ∷ 0 ∷ 0 ∷ 1 ∷ 0 ∷ 1 ∷ 0 ∷ 1 ∷ 0 ∷ 12 ∷ 0 ∷ 3 ∷ 0 ∷ 1 ∷ 0 ∷ 1 ∷ 0 ∷ 0 ∷ 0 ∷ 0 ∷ 0 ∷ 0 ∷ 0 ∷ 0 ∷ 0 ∷ 0 ∷ 0 ∷ 0 ∷ 0 ∷ 12 ∷ 8 ∷ 4 ∷ 0 ∷ 1 ∷ 0 ∷ 2 ∷ 0 ∷ 0 ∷ 0 ∷ 0 ∷ 0 ∷ 0 ∷ 0 ∷ 0 ∷ 0 ∷ 0 ∷ 0 ∷ 0 ∷ 0 ∷ 0 ∷ 0 ∷ 2 ∷ 0 ∷ 5 ∷ 0 ∷ 0 ∷ 0 ∷ 0 ∷ 0 ∷ 3 ∷ 0 ∷ 5 ∷ 0 ∷ 2 ∷ 0 ∷ 0 ∷ 0 ∷ 4 ∷ 0 ∷ 5 ∷ 0 ∷ 1 ∷ 0 ∷ 97 ∷ 98 ∷ 99 ∷ 100 ∷ 101 ∷ 102 ∷ 97 ∷ 98 ∷ 99 ∷ []);
      text = (97 ∷ 98 ∷ 99 ∷ 113 ∷ []);
      operations = 90;
      names = 10;
      modules = 0;
      host = (site ((Operand (Constant (w.Range (pos 5) (pos 9)))) ∷ (Operand (Variable (place Rule 1 1))) ∷ (Operand (Variable (place Rule 2 1))) ∷ []));
      first = [];
      second = [];
      opening = lend 128 16 64;
      calls = ((lend 128 16 64, run false) ∷ []);
      check = (passes None);
      answers = ((ran (told 0 (value (v.Number (pos 0))) 0 0) 7 [] []) ∷ []);
    }
    ∷  -- counter-starts-at-zero
    record {
      image = (82 ∷ 72 ∷ 83 ∷ 1 ∷ 0 ∷ 0 ∷ 2 ∷ 0 ∷ 2 ∷ 0 ∷ 2 ∷ 0 ∷ 9 ∷ 0 ∷ 0 ∷ 0 ∷ 1 ∷ 0 ∷ 1 ∷ 0 ∷ 1 ∷ 0 ∷ 9 ∷ 0 ∷ 1 ∷ 0 ∷ 1 ∷ 0 ∷ 0 ∷ 0 ∷ 1 ∷ 0 ∷ 0 ∷ 0 ∷ 0 ∷ 0 ∷ 1 ∷ 0 ∷ 1 ∷ 0 ∷ 1 ∷ 0 ∷ 12 ∷ 0 ∷ 2 ∷ 0 ∷ 1 ∷ 0 ∷ 1 ∷ 0 ∷ 0 ∷ 0 ∷ 0 ∷ 0 ∷ 0 ∷ 0 ∷ 0 ∷ 0 ∷ 0 ∷ 0 ∷ 0 ∷ 0 ∷ 0 ∷ 0 ∷ 1 ∷ 0 ∷ 5 ∷ 0 ∷ 0 ∷ 0 ∷ 0 ∷ 0 ∷ 2 ∷ 0 ∷ 5 ∷ 0 ∷ 0 ∷ 0 ∷ 97 ∷ 98 ∷ 99 ∷ 100 ∷ 101 ∷ 102 ∷ 97 ∷ 98 ∷ 99 ∷ []);
      text = (97 ∷ 98 ∷ 99 ∷ 113 ∷ []);
      operations = 50;
      names = 10;
      modules = 0;
      host = (scripted ((evaluation None None (eval.Value (v.Seq 1))) ∷ (evaluation None None (eval.Row 2)) ∷ []) []);
      first = [];
      second = [];
      opening = lend 128 16 64;
      calls = ((lend 128 16 64, run false) ∷ []);
      check = (passes None);
      answers = ((ran (told 0 (value (v.Number (pos 0))) 0 0) 4 [] []) ∷ []);
    }
    ∷  -- faulty-item-after-two-rounds
    record {
      image = (82 ∷ 72 ∷ 83 ∷ 1 ∷ 0 ∷ 0 ∷ 4 ∷ 0 ∷ 4 ∷ 0 ∷ 2 ∷ 0 ∷ 9 ∷ 0 ∷ 0 ∷ 0 ∷ 1 ∷ 0 ∷ 1 ∷ 0 ∷ 1 ∷ 0 ∷ 2 ∷ 0 ∷ 1 ∷ 0 ∷ 3 ∷ 0 ∷ 1 ∷ 0 ∷ 11 ∷ 0 ∷ 1 ∷ 0 ∷ 1 ∷ 0 ∷ 0 ∷ 0 ∷ 1 ∷ 0 ∷ 2 ∷ 0 ∷ 4 ∷ 0 ∷ 1 ∷ 0 ∷ 0 ∷ 0 ∷ 0 ∷ 0 ∷ 9 ∷ 0 ∷ 2 ∷ 0 ∷ 1 ∷ 0 ∷ 0 ∷ 0 ∷ 3 ∷ 0 ∷ 0 ∷ 0 ∷ 0 ∷ 0 ∷ 1 ∷ 0 ∷ 1 ∷ 0 ∷ 1 ∷ 0 ∷ 12 ∷ 8 ∷ 3 ∷ 0 ∷ 1 ∷ 0 ∷ 255 ∷ 255 ∷ 0 ∷ 0 ∷ 0 ∷ 0 ∷ 0 ∷ 0 ∷ 0 ∷ 0 ∷ 0 ∷ 0 ∷ 0 ∷ 0 ∷ 1 ∷ 0 ∷ 4 ∷ 0 ∷ 1 ∷ 0 ∷ 1 ∷ 0 ∷ 0 ∷ 0 ∷ 0 ∷ 0 ∷ 0 ∷ 0 ∷ 0 ∷ 0 ∷ 0 ∷ 0 ∷ 0 ∷ 0 ∷ 0 ∷ 0 ∷ 2 ∷ 0 ∷ 5 ∷ 0 ∷ 0 ∷ 0 ∷ 0 ∷ 0 ∷ 4 ∷ 0 ∷ 5 ∷ 0 ∷ 0 ∷ 0 ∷ 97 ∷ 98 ∷ 99 ∷ 100 ∷ 101 ∷ 102 ∷ 97 ∷ 98 ∷ 99 ∷ []);
      text = (97 ∷ 98 ∷ 99 ∷ 113 ∷ []);
      operations = 50;
      names = 10;
      modules = 0;
      host = (scripted ((evaluation None None (eval.Value (v.Seq 123))) ∷ []) []);
      first = [];
      second = [];
      opening = lend 128 16 64;
      calls = ((lend 128 16 64, run false) ∷ []);
      check = (passes None);
      answers = ((ran (told 25 (code 61) 3 1) 8 [] []) ∷ []);
    }
    ∷  -- faulty-item-of-its-own-position-after-two-rounds
    record {
      image = (82 ∷ 72 ∷ 83 ∷ 1 ∷ 0 ∷ 0 ∷ 4 ∷ 0 ∷ 4 ∷ 0 ∷ 2 ∷ 0 ∷ 9 ∷ 0 ∷ 0 ∷ 0 ∷ 1 ∷ 0 ∷ 1 ∷ 0 ∷ 1 ∷ 0 ∷ 2 ∷ 0 ∷ 1 ∷ 0 ∷ 3 ∷ 0 ∷ 1 ∷ 0 ∷ 11 ∷ 0 ∷ 1 ∷ 0 ∷ 1 ∷ 0 ∷ 0 ∷ 0 ∷ 1 ∷ 0 ∷ 2 ∷ 0 ∷ 4 ∷ 0 ∷ 1 ∷ 0 ∷ 0 ∷ 0 ∷ 0 ∷ 0 ∷ 9 ∷ 0 ∷ 2 ∷ 0 ∷ 1 ∷ 0 ∷ 0 ∷ 0 ∷ 3 ∷ 0 ∷ 0 ∷ 0 ∷ 0 ∷ 0 ∷ 1 ∷ 0 ∷ 0 ∷ 0 ∷ 0 ∷ 0 ∷ 12 ∷ 0 ∷ 3 ∷ 0 ∷ 1 ∷ 0 ∷ 1 ∷ 0 ∷ 0 ∷ 0 ∷ 0 ∷ 0 ∷ 0 ∷ 0 ∷ 0 ∷ 0 ∷ 0 ∷ 0 ∷ 0 ∷ 0 ∷ 0 ∷ 0 ∷ 4 ∷ 0 ∷ 1 ∷ 0 ∷ 0 ∷ 0 ∷ 0 ∷ 0 ∷ 0 ∷ 0 ∷ 0 ∷ 0 ∷ 0 ∷ 0 ∷ 0 ∷ 0 ∷ 0 ∷ 0 ∷ 0 ∷ 0 ∷ 2 ∷ 0 ∷ 5 ∷ 0 ∷ 0 ∷ 0 ∷ 0 ∷ 0 ∷ 3 ∷ 0 ∷ 5 ∷ 0 ∷ 0 ∷ 0 ∷ 97 ∷ 98 ∷ 99 ∷ 100 ∷ 101 ∷ 102 ∷ 97 ∷ 98 ∷ 99 ∷ []);
      text = (97 ∷ 98 ∷ 99 ∷ 113 ∷ []);
      operations = 50;
      names = 10;
      modules = 0;
      host = (scripted ((evaluation None None (eval.Value (v.Seq 224))) ∷ (evaluation None None (eval.Row 1)) ∷ []) []);
      first = [];
      second = [];
      opening = lend 128 16 64;
      calls = ((lend 128 16 64, run false) ∷ []);
      check = (passes None);
      answers = ((ran (told 0 (value (v.Number (pos 25))) 0 0) 7 [] []) ∷ []);
    }
    ∷  -- faulty-item-that-cannot-be-caught-after-two-rounds
    record {
      image = (82 ∷ 72 ∷ 83 ∷ 1 ∷ 0 ∷ 0 ∷ 3 ∷ 0 ∷ 3 ∷ 0 ∷ 1 ∷ 0 ∷ 9 ∷ 0 ∷ 0 ∷ 0 ∷ 1 ∷ 0 ∷ 1 ∷ 0 ∷ 1 ∷ 0 ∷ 2 ∷ 0 ∷ 1 ∷ 0 ∷ 11 ∷ 0 ∷ 1 ∷ 0 ∷ 1 ∷ 0 ∷ 0 ∷ 0 ∷ 1 ∷ 0 ∷ 255 ∷ 255 ∷ 4 ∷ 0 ∷ 1 ∷ 0 ∷ 0 ∷ 0 ∷ 0 ∷ 0 ∷ 9 ∷ 0 ∷ 2 ∷ 0 ∷ 1 ∷ 0 ∷ 0 ∷ 0 ∷ 2 ∷ 0 ∷ 0 ∷ 0 ∷ 0 ∷ 0 ∷ 1 ∷ 0 ∷ 1 ∷ 0 ∷ 1 ∷ 0 ∷ 0 ∷ 0 ∷ 3 ∷ 0 ∷ 1 ∷ 0 ∷ 0 ∷ 0 ∷ 0 ∷ 0 ∷ 0 ∷ 0 ∷ 0 ∷ 0 ∷ 0 ∷ 0 ∷ 0 ∷ 0 ∷ 0 ∷ 0 ∷ 0 ∷ 0 ∷ 2 ∷ 0 ∷ 5 ∷ 0 ∷ 0 ∷ 0 ∷ 97 ∷ 98 ∷ 99 ∷ 100 ∷ 101 ∷ 102 ∷ 97 ∷ 98 ∷ 99 ∷ []);
      text = (97 ∷ 98 ∷ 99 ∷ 113 ∷ []);
      operations = 50;
      names = 10;
      modules = 0;
      host = (scripted ((evaluation None None (eval.Value (v.Seq 323))) ∷ []) []);
      first = [];
      second = [];
      opening = lend 128 16 64;
      calls = ((lend 128 16 64, run false) ∷ []);
      check = (passes None);
      answers = ((ran (told 25 (code 63) 2 5) 5 [] []) ∷ []);
    }
    ∷  -- faulty-item-of-its-own-position-after-eight-rounds
    record {
      image = (82 ∷ 72 ∷ 83 ∷ 1 ∷ 0 ∷ 0 ∷ 2 ∷ 0 ∷ 2 ∷ 0 ∷ 1 ∷ 0 ∷ 9 ∷ 0 ∷ 0 ∷ 0 ∷ 1 ∷ 0 ∷ 1 ∷ 0 ∷ 1 ∷ 0 ∷ 9 ∷ 0 ∷ 1 ∷ 0 ∷ 1 ∷ 0 ∷ 0 ∷ 0 ∷ 1 ∷ 0 ∷ 0 ∷ 0 ∷ 0 ∷ 0 ∷ 1 ∷ 0 ∷ 0 ∷ 0 ∷ 0 ∷ 0 ∷ 0 ∷ 0 ∷ 2 ∷ 0 ∷ 1 ∷ 0 ∷ 0 ∷ 0 ∷ 0 ∷ 0 ∷ 0 ∷ 0 ∷ 0 ∷ 0 ∷ 0 ∷ 0 ∷ 0 ∷ 0 ∷ 0 ∷ 0 ∷ 0 ∷ 0 ∷ 1 ∷ 0 ∷ 5 ∷ 0 ∷ 0 ∷ 0 ∷ 97 ∷ 98 ∷ 99 ∷ 100 ∷ 101 ∷ 102 ∷ 97 ∷ 98 ∷ 99 ∷ []);
      text = (97 ∷ 98 ∷ 99 ∷ 113 ∷ []);
      operations = 50;
      names = 10;
      modules = 0;
      host = (scripted ((evaluation None None (eval.Value (v.Seq 289))) ∷ []) []);
      first = [];
      second = [];
      opening = lend 128 16 64;
      calls = ((lend 128 16 64, run false) ∷ []);
      check = (passes None);
      answers = ((ran (told 25 (code 62) 90 91) 10 [] []) ∷ []);
    }
    ∷  -- faulty-item-at-the-end-of-a-long-sequence
    record {
      image = (82 ∷ 72 ∷ 83 ∷ 1 ∷ 0 ∷ 0 ∷ 2 ∷ 0 ∷ 2 ∷ 0 ∷ 1 ∷ 0 ∷ 9 ∷ 0 ∷ 0 ∷ 0 ∷ 1 ∷ 0 ∷ 1 ∷ 0 ∷ 1 ∷ 0 ∷ 9 ∷ 0 ∷ 1 ∷ 0 ∷ 1 ∷ 0 ∷ 0 ∷ 0 ∷ 1 ∷ 0 ∷ 0 ∷ 0 ∷ 0 ∷ 0 ∷ 1 ∷ 0 ∷ 1 ∷ 0 ∷ 1 ∷ 0 ∷ 0 ∷ 0 ∷ 2 ∷ 0 ∷ 1 ∷ 0 ∷ 0 ∷ 0 ∷ 0 ∷ 0 ∷ 0 ∷ 0 ∷ 0 ∷ 0 ∷ 0 ∷ 0 ∷ 0 ∷ 0 ∷ 0 ∷ 0 ∷ 0 ∷ 0 ∷ 1 ∷ 0 ∷ 5 ∷ 0 ∷ 0 ∷ 0 ∷ 97 ∷ 98 ∷ 99 ∷ 100 ∷ 101 ∷ 102 ∷ 97 ∷ 98 ∷ 99 ∷ []);
      text = (97 ∷ 98 ∷ 99 ∷ 113 ∷ []);
      operations = 50;
      names = 10;
      modules = 0;
      host = (scripted ((evaluation None None (eval.Value (v.Seq 189))) ∷ []) []);
      first = [];
      second = [];
      opening = lend 128 16 64;
      calls = ((lend 128 16 64, run false) ∷ []);
      check = (passes None);
      answers = ((ran (told 25 (code 61) 1 5) 10 [] []) ∷ []);
    }
    ∷  -- counter-and-name-alike
    record {
      image = (82 ∷ 72 ∷ 83 ∷ 1 ∷ 0 ∷ 0 ∷ 2 ∷ 0 ∷ 3 ∷ 0 ∷ 3 ∷ 0 ∷ 9 ∷ 0 ∷ 0 ∷ 0 ∷ 1 ∷ 0 ∷ 1 ∷ 0 ∷ 2 ∷ 0 ∷ 9 ∷ 0 ∷ 1 ∷ 0 ∷ 1 ∷ 0 ∷ 0 ∷ 0 ∷ 1 ∷ 0 ∷ 0 ∷ 0 ∷ 0 ∷ 0 ∷ 1 ∷ 0 ∷ 0 ∷ 0 ∷ 1 ∷ 0 ∷ 3 ∷ 0 ∷ 2 ∷ 0 ∷ 1 ∷ 0 ∷ 1 ∷ 0 ∷ 0 ∷ 0 ∷ 0 ∷ 0 ∷ 0 ∷ 0 ∷ 1 ∷ 0 ∷ 2 ∷ 0 ∷ 0 ∷ 0 ∷ 1 ∷ 0 ∷ 3 ∷ 0 ∷ 1 ∷ 0 ∷ 2 ∷ 0 ∷ 0 ∷ 0 ∷ 0 ∷ 0 ∷ 0 ∷ 0 ∷ 0 ∷ 0 ∷ 0 ∷ 0 ∷ 0 ∷ 0 ∷ 0 ∷ 0 ∷ 1 ∷ 0 ∷ 5 ∷ 0 ∷ 0 ∷ 0 ∷ 0 ∷ 0 ∷ 2 ∷ 0 ∷ 5 ∷ 0 ∷ 0 ∷ 0 ∷ 0 ∷ 0 ∷ 3 ∷ 0 ∷ 5 ∷ 0 ∷ 0 ∷ 0 ∷ 97 ∷ 98 ∷ 99 ∷ 100 ∷ 101 ∷ 102 ∷ 97 ∷ 98 ∷ 99 ∷ []);
      text = (97 ∷ 98 ∷ 99 ∷ 113 ∷ []);
      operations = 50;
      names = 10;
      modules = 0;
      host = (scripted ((evaluation None None (eval.Value (v.Range (pos 3) (pos 4)))) ∷ (evaluation None None (eval.Row 1)) ∷ (evaluation None None (eval.Row 2)) ∷ []) []);
      first = [];
      second = [];
      opening = lend 128 16 64;
      calls = ((lend 128 16 64, run false) ∷ []);
      check = (passes None);
      answers = ((ran (told 0 (value v.Unit) 0 0) 7 [] []) ∷ []);
    }
    ∷  -- caught-host-fault-is-its-number
    record {
      image = (82 ∷ 72 ∷ 83 ∷ 1 ∷ 0 ∷ 0 ∷ 3 ∷ 0 ∷ 3 ∷ 0 ∷ 2 ∷ 0 ∷ 9 ∷ 0 ∷ 0 ∷ 0 ∷ 1 ∷ 0 ∷ 1 ∷ 0 ∷ 1 ∷ 0 ∷ 2 ∷ 0 ∷ 1 ∷ 0 ∷ 11 ∷ 0 ∷ 1 ∷ 0 ∷ 1 ∷ 0 ∷ 0 ∷ 0 ∷ 1 ∷ 0 ∷ 2 ∷ 0 ∷ 4 ∷ 0 ∷ 1 ∷ 0 ∷ 0 ∷ 0 ∷ 0 ∷ 0 ∷ 1 ∷ 0 ∷ 2 ∷ 0 ∷ 1 ∷ 0 ∷ 0 ∷ 0 ∷ 0 ∷ 0 ∷ 0 ∷ 0 ∷ 0 ∷ 0 ∷ 0 ∷ 0 ∷ 0 ∷ 0 ∷ 0 ∷ 0 ∷ 12 ∷ 0 ∷ 3 ∷ 0 ∷ 1 ∷ 0 ∷ 1 ∷ 0 ∷ 0 ∷ 0 ∷ 0 ∷ 0 ∷ 0 ∷ 0 ∷ 0 ∷ 0 ∷ 0 ∷ 0 ∷ 0 ∷ 0 ∷ 0 ∷ 0 ∷ 2 ∷ 0 ∷ 5 ∷ 0 ∷ 0 ∷ 0 ∷ 0 ∷ 0 ∷ 3 ∷ 0 ∷ 5 ∷ 0 ∷ 0 ∷ 0 ∷ 97 ∷ 98 ∷ 99 ∷ 100 ∷ 101 ∷ 102 ∷ 97 ∷ 98 ∷ 99 ∷ []);
      text = (97 ∷ 98 ∷ 99 ∷ 113 ∷ []);
      operations = 50;
      names = 10;
      modules = 0;
      host = (scripted ((evaluation None None (eval.Fault (fault 2 0 0 true))) ∷ (evaluation None None (eval.Row 1)) ∷ []) []);
      first = [];
      second = [];
      opening = lend 128 16 64;
      calls = ((lend 128 16 64, run false) ∷ []);
      check = (passes (Some 5));
      answers = ((ran (told 0 (value (v.Number (pos 25))) 0 0) 5 [] []) ∷ []);
    }
    ∷  -- caught-unknown-name-is-its-number
    record {
      image = (82 ∷ 72 ∷ 83 ∷ 1 ∷ 0 ∷ 0 ∷ 3 ∷ 0 ∷ 3 ∷ 0 ∷ 2 ∷ 0 ∷ 9 ∷ 0 ∷ 0 ∷ 0 ∷ 1 ∷ 0 ∷ 1 ∷ 0 ∷ 1 ∷ 0 ∷ 2 ∷ 0 ∷ 1 ∷ 0 ∷ 11 ∷ 0 ∷ 1 ∷ 0 ∷ 1 ∷ 0 ∷ 0 ∷ 0 ∷ 1 ∷ 0 ∷ 2 ∷ 0 ∷ 4 ∷ 0 ∷ 1 ∷ 0 ∷ 0 ∷ 0 ∷ 0 ∷ 0 ∷ 3 ∷ 0 ∷ 2 ∷ 0 ∷ 1 ∷ 0 ∷ 0 ∷ 0 ∷ 0 ∷ 0 ∷ 0 ∷ 0 ∷ 0 ∷ 0 ∷ 1 ∷ 0 ∷ 0 ∷ 0 ∷ 0 ∷ 0 ∷ 12 ∷ 0 ∷ 3 ∷ 0 ∷ 1 ∷ 0 ∷ 1 ∷ 0 ∷ 0 ∷ 0 ∷ 0 ∷ 0 ∷ 0 ∷ 0 ∷ 0 ∷ 0 ∷ 0 ∷ 0 ∷ 0 ∷ 0 ∷ 0 ∷ 0 ∷ 2 ∷ 0 ∷ 5 ∷ 0 ∷ 0 ∷ 0 ∷ 0 ∷ 0 ∷ 3 ∷ 0 ∷ 5 ∷ 0 ∷ 1 ∷ 0 ∷ 97 ∷ 98 ∷ 99 ∷ 100 ∷ 101 ∷ 102 ∷ 97 ∷ 98 ∷ 99 ∷ []);
      text = (97 ∷ 98 ∷ 99 ∷ 113 ∷ []);
      operations = 50;
      names = 10;
      modules = 0;
      host = (site ((Operand (Constant (w.Number (pos 1)))) ∷ (Operand (Variable (place Rule 4 1))) ∷ []));
      first = [];
      second = [];
      opening = lend 128 16 64;
      calls = ((lend 128 16 64, run false) ∷ []);
      check = (passes (Some 6));
      answers = ((ran (told 0 (value (v.Number (pos 17))) 0 0) 6 [] []) ∷ []);
    }
    ∷  -- caught-value-is-the-thrown-one
    record {
      image = (82 ∷ 72 ∷ 83 ∷ 1 ∷ 0 ∷ 0 ∷ 3 ∷ 0 ∷ 3 ∷ 0 ∷ 2 ∷ 0 ∷ 9 ∷ 0 ∷ 0 ∷ 0 ∷ 1 ∷ 0 ∷ 1 ∷ 0 ∷ 1 ∷ 0 ∷ 2 ∷ 0 ∷ 1 ∷ 0 ∷ 11 ∷ 0 ∷ 1 ∷ 0 ∷ 1 ∷ 0 ∷ 0 ∷ 0 ∷ 1 ∷ 0 ∷ 2 ∷ 0 ∷ 4 ∷ 0 ∷ 1 ∷ 0 ∷ 0 ∷ 0 ∷ 0 ∷ 0 ∷ 12 ∷ 8 ∷ 2 ∷ 0 ∷ 1 ∷ 0 ∷ 0 ∷ 0 ∷ 0 ∷ 0 ∷ 0 ∷ 0 ∷ 0 ∷ 0 ∷ 0 ∷ 0 ∷ 0 ∷ 0 ∷ 0 ∷ 0 ∷ 12 ∷ 0 ∷ 3 ∷ 0 ∷ 1 ∷ 0 ∷ 1 ∷ 0 ∷ 0 ∷ 0 ∷ 0 ∷ 0 ∷ 0 ∷ 0 ∷ 0 ∷ 0 ∷ 0 ∷ 0 ∷ 0 ∷ 0 ∷ 0 ∷ 0 ∷ 2 ∷ 0 ∷ 5 ∷ 0 ∷ 0 ∷ 0 ∷ 0 ∷ 0 ∷ 3 ∷ 0 ∷ 5 ∷ 0 ∷ 0 ∷ 0 ∷ 97 ∷ 98 ∷ 99 ∷ 100 ∷ 101 ∷ 102 ∷ 97 ∷ 98 ∷ 99 ∷ []);
      text = (97 ∷ 98 ∷ 99 ∷ 113 ∷ []);
      operations = 50;
      names = 10;
      modules = 0;
      host = (scripted ((evaluation None None (eval.Value (v.Range (pos 1) (pos 2)))) ∷ (evaluation None None (eval.Row 1)) ∷ []) []);
      first = [];
      second = [];
      opening = lend 128 16 64;
      calls = ((lend 128 16 64, run false) ∷ []);
      check = (passes (Some 5));
      answers = ((ran (told 0 (value (v.Range (pos 1) (pos 2))) 0 0) 5 [] []) ∷ []);
    }
    ∷  -- uncatchable-host-fault
    record {
      image = (82 ∷ 72 ∷ 83 ∷ 1 ∷ 0 ∷ 0 ∷ 2 ∷ 0 ∷ 2 ∷ 0 ∷ 1 ∷ 0 ∷ 9 ∷ 0 ∷ 0 ∷ 0 ∷ 1 ∷ 0 ∷ 1 ∷ 0 ∷ 1 ∷ 0 ∷ 11 ∷ 0 ∷ 1 ∷ 0 ∷ 1 ∷ 0 ∷ 0 ∷ 0 ∷ 1 ∷ 0 ∷ 255 ∷ 255 ∷ 4 ∷ 0 ∷ 1 ∷ 0 ∷ 0 ∷ 0 ∷ 0 ∷ 0 ∷ 1 ∷ 0 ∷ 2 ∷ 0 ∷ 1 ∷ 0 ∷ 0 ∷ 0 ∷ 0 ∷ 0 ∷ 0 ∷ 0 ∷ 0 ∷ 0 ∷ 0 ∷ 0 ∷ 0 ∷ 0 ∷ 0 ∷ 0 ∷ 0 ∷ 0 ∷ 2 ∷ 0 ∷ 5 ∷ 0 ∷ 0 ∷ 0 ∷ 97 ∷ 98 ∷ 99 ∷ 100 ∷ 101 ∷ 102 ∷ 97 ∷ 98 ∷ 99 ∷ []);
      text = (97 ∷ 98 ∷ 99 ∷ 113 ∷ []);
      operations = 50;
      names = 10;
      modules = 0;
      host = (scripted ((evaluation None None (eval.Fault (fault 2 0 0 false))) ∷ []) []);
      first = [];
      second = [];
      opening = lend 128 16 64;
      calls = ((lend 128 16 64, run false) ∷ []);
      check = (passes (Some 3));
      answers = ((ran (told 25 (code 2) 2 5) 3 [] []) ∷ []);
    }
    ∷  -- host-fault-thrown-again-gets-the-new-position
    record {
      image = (82 ∷ 72 ∷ 83 ∷ 1 ∷ 0 ∷ 0 ∷ 3 ∷ 0 ∷ 4 ∷ 0 ∷ 1 ∷ 0 ∷ 9 ∷ 0 ∷ 0 ∷ 0 ∷ 1 ∷ 0 ∷ 1 ∷ 0 ∷ 1 ∷ 0 ∷ 2 ∷ 0 ∷ 2 ∷ 0 ∷ 11 ∷ 0 ∷ 1 ∷ 0 ∷ 1 ∷ 0 ∷ 0 ∷ 0 ∷ 1 ∷ 0 ∷ 2 ∷ 0 ∷ 0 ∷ 0 ∷ 0 ∷ 0 ∷ 0 ∷ 0 ∷ 0 ∷ 0 ∷ 1 ∷ 0 ∷ 2 ∷ 0 ∷ 1 ∷ 0 ∷ 0 ∷ 0 ∷ 0 ∷ 0 ∷ 0 ∷ 0 ∷ 0 ∷ 0 ∷ 0 ∷ 0 ∷ 0 ∷ 0 ∷ 0 ∷ 0 ∷ 0 ∷ 0 ∷ 3 ∷ 0 ∷ 1 ∷ 0 ∷ 0 ∷ 0 ∷ 0 ∷ 0 ∷ 0 ∷ 0 ∷ 0 ∷ 0 ∷ 0 ∷ 0 ∷ 0 ∷ 0 ∷ 0 ∷ 0 ∷ 12 ∷ 8 ∷ 4 ∷ 0 ∷ 1 ∷ 0 ∷ 255 ∷ 255 ∷ 0 ∷ 0 ∷ 0 ∷ 0 ∷ 0 ∷ 0 ∷ 0 ∷ 0 ∷ 0 ∷ 0 ∷ 0 ∷ 0 ∷ 0 ∷ 0 ∷ 2 ∷ 0 ∷ 5 ∷ 0 ∷ 0 ∷ 0 ∷ 97 ∷ 98 ∷ 99 ∷ 100 ∷ 101 ∷ 102 ∷ 97 ∷ 98 ∷ 99 ∷ []);
      text = (97 ∷ 98 ∷ 99 ∷ 113 ∷ []);
      operations = 50;
      names = 10;
      modules = 0;
      host = (scripted ((evaluation None None (eval.Fault (fault 2 40 4 true))) ∷ []) []);
      first = [];
      second = [];
      opening = lend 128 16 64;
      calls = ((lend 128 16 64, run false) ∷ []);
      check = (passes (Some 5));
      answers = ((ran (told 25 (code 2) 4 1) 5 [] []) ∷ []);
    }
    ∷  -- thrown-again-by-a-unit-of-the-host
    record {
      image = (82 ∷ 72 ∷ 83 ∷ 1 ∷ 0 ∷ 0 ∷ 3 ∷ 0 ∷ 3 ∷ 0 ∷ 2 ∷ 0 ∷ 9 ∷ 0 ∷ 0 ∷ 0 ∷ 1 ∷ 0 ∷ 1 ∷ 0 ∷ 1 ∷ 0 ∷ 2 ∷ 0 ∷ 1 ∷ 0 ∷ 11 ∷ 0 ∷ 1 ∷ 0 ∷ 1 ∷ 0 ∷ 0 ∷ 0 ∷ 1 ∷ 0 ∷ 2 ∷ 0 ∷ 4 ∷ 0 ∷ 1 ∷ 0 ∷ 0 ∷ 0 ∷ 0 ∷ 0 ∷ 3 ∷ 0 ∷ 2 ∷ 0 ∷ 1 ∷ 0 ∷ 0 ∷ 0 ∷ 0 ∷ 0 ∷ 0 ∷ 0 ∷ 0 ∷ 0 ∷ 1 ∷ 0 ∷ 0 ∷ 0 ∷ 0 ∷ 0 ∷ 12 ∷ 8 ∷ 3 ∷ 0 ∷ 1 ∷ 0 ∷ 1 ∷ 0 ∷ 0 ∷ 0 ∷ 0 ∷ 0 ∷ 0 ∷ 0 ∷ 0 ∷ 0 ∷ 0 ∷ 0 ∷ 0 ∷ 0 ∷ 0 ∷ 0 ∷ 2 ∷ 0 ∷ 5 ∷ 0 ∷ 0 ∷ 0 ∷ 0 ∷ 0 ∷ 3 ∷ 0 ∷ 5 ∷ 0 ∷ 0 ∷ 0 ∷ 97 ∷ 98 ∷ 99 ∷ 100 ∷ 101 ∷ 102 ∷ 97 ∷ 98 ∷ 99 ∷ []);
      text = (97 ∷ 98 ∷ 99 ∷ 113 ∷ []);
      operations = 50;
      names = 10;
      modules = 0;
      host = (scripted [] []);
      first = [];
      second = [];
      opening = lend 128 16 64;
      calls = ((lend 128 16 64, run false) ∷ []);
      check = (passes (Some 6));
      answers = ((ran (told 17 (name (place Rule 0 1)) 3 1) 6 [] []) ∷ []);
    }
    ∷  -- thrown-again-twice
    record {
      image = (82 ∷ 72 ∷ 83 ∷ 1 ∷ 0 ∷ 0 ∷ 6 ∷ 0 ∷ 6 ∷ 0 ∷ 1 ∷ 0 ∷ 9 ∷ 0 ∷ 0 ∷ 0 ∷ 1 ∷ 0 ∷ 1 ∷ 0 ∷ 1 ∷ 0 ∷ 2 ∷ 0 ∷ 1 ∷ 0 ∷ 3 ∷ 0 ∷ 1 ∷ 0 ∷ 4 ∷ 0 ∷ 1 ∷ 0 ∷ 5 ∷ 0 ∷ 1 ∷ 0 ∷ 11 ∷ 0 ∷ 1 ∷ 0 ∷ 1 ∷ 0 ∷ 0 ∷ 0 ∷ 1 ∷ 0 ∷ 2 ∷ 0 ∷ 0 ∷ 0 ∷ 0 ∷ 0 ∷ 0 ∷ 0 ∷ 0 ∷ 0 ∷ 11 ∷ 0 ∷ 2 ∷ 0 ∷ 1 ∷ 0 ∷ 0 ∷ 0 ∷ 3 ∷ 0 ∷ 4 ∷ 0 ∷ 0 ∷ 0 ∷ 0 ∷ 0 ∷ 0 ∷ 0 ∷ 0 ∷ 0 ∷ 2 ∷ 0 ∷ 3 ∷ 0 ∷ 1 ∷ 0 ∷ 0 ∷ 0 ∷ 5 ∷ 0 ∷ 0 ∷ 0 ∷ 0 ∷ 0 ∷ 0 ∷ 0 ∷ 0 ∷ 0 ∷ 0 ∷ 0 ∷ 3 ∷ 0 ∷ 4 ∷ 0 ∷ 1 ∷ 0 ∷ 0 ∷ 0 ∷ 0 ∷ 0 ∷ 0 ∷ 0 ∷ 0 ∷ 0 ∷ 1 ∷ 0 ∷ 0 ∷ 0 ∷ 0 ∷ 0 ∷ 12 ∷ 8 ∷ 5 ∷ 0 ∷ 1 ∷ 0 ∷ 255 ∷ 255 ∷ 0 ∷ 0 ∷ 0 ∷ 0 ∷ 0 ∷ 0 ∷ 0 ∷ 0 ∷ 0 ∷ 0 ∷ 0 ∷ 0 ∷ 12 ∷ 8 ∷ 6 ∷ 0 ∷ 1 ∷ 0 ∷ 255 ∷ 255 ∷ 0 ∷ 0 ∷ 0 ∷ 0 ∷ 0 ∷ 0 ∷ 0 ∷ 0 ∷ 0 ∷ 0 ∷ 0 ∷ 0 ∷ 0 ∷ 0 ∷ 4 ∷ 0 ∷ 5 ∷ 0 ∷ 0 ∷ 0 ∷ 97 ∷ 98 ∷ 99 ∷ 100 ∷ 101 ∷ 102 ∷ 97 ∷ 98 ∷ 99 ∷ []);
      text = (97 ∷ 98 ∷ 99 ∷ 113 ∷ []);
      operations = 50;
      names = 10;
      modules = 0;
      host = (scripted [] []);
      first = [];
      second = [];
      opening = lend 128 16 64;
      calls = ((lend 128 16 64, run false) ∷ []);
      check = (passes (Some 8));
      answers = ((ran (told 17 (name (place Rule 0 1)) 6 1) 8 [] []) ∷ []);
    }
    ∷  -- thrown-again-without-position
    record {
      image = (82 ∷ 72 ∷ 83 ∷ 1 ∷ 0 ∷ 0 ∷ 3 ∷ 0 ∷ 3 ∷ 0 ∷ 1 ∷ 0 ∷ 9 ∷ 0 ∷ 0 ∷ 0 ∷ 1 ∷ 0 ∷ 1 ∷ 0 ∷ 1 ∷ 0 ∷ 2 ∷ 0 ∷ 1 ∷ 0 ∷ 11 ∷ 0 ∷ 1 ∷ 0 ∷ 1 ∷ 0 ∷ 0 ∷ 0 ∷ 1 ∷ 0 ∷ 2 ∷ 0 ∷ 0 ∷ 0 ∷ 0 ∷ 0 ∷ 0 ∷ 0 ∷ 0 ∷ 0 ∷ 1 ∷ 0 ∷ 2 ∷ 0 ∷ 1 ∷ 0 ∷ 0 ∷ 0 ∷ 0 ∷ 0 ∷ 0 ∷ 0 ∷ 0 ∷ 0 ∷ 0 ∷ 0 ∷ 0 ∷ 0 ∷ 0 ∷ 0 ∷ 12 ∷ 8 ∷ 0 ∷ 0 ∷ 0 ∷ 0 ∷ 255 ∷ 255 ∷ 0 ∷ 0 ∷ 0 ∷ 0 ∷ 0 ∷ 0 ∷ 0 ∷ 0 ∷ 0 ∷ 0 ∷ 0 ∷ 0 ∷ 0 ∷ 0 ∷ 2 ∷ 0 ∷ 5 ∷ 0 ∷ 0 ∷ 0 ∷ 97 ∷ 98 ∷ 99 ∷ 100 ∷ 101 ∷ 102 ∷ 97 ∷ 98 ∷ 99 ∷ []);
      text = (97 ∷ 98 ∷ 99 ∷ 113 ∷ []);
      operations = 50;
      names = 10;
      modules = 0;
      host = (scripted ((evaluation None None (eval.Fault (fault 2 40 4 true))) ∷ []) []);
      first = [];
      second = [];
      opening = lend 128 16 64;
      calls = ((lend 128 16 64, run false) ∷ []);
      check = (passes (Some 4));
      answers = ((ran (told 25 (code 2) 0 0) 4 [] []) ∷ []);
    }
    ∷  -- catch-throws-another-value
    record {
      image = (82 ∷ 72 ∷ 83 ∷ 1 ∷ 0 ∷ 0 ∷ 3 ∷ 0 ∷ 3 ∷ 0 ∷ 1 ∷ 0 ∷ 9 ∷ 0 ∷ 0 ∷ 0 ∷ 1 ∷ 0 ∷ 1 ∷ 0 ∷ 1 ∷ 0 ∷ 2 ∷ 0 ∷ 1 ∷ 0 ∷ 11 ∷ 0 ∷ 1 ∷ 0 ∷ 1 ∷ 0 ∷ 0 ∷ 0 ∷ 1 ∷ 0 ∷ 2 ∷ 0 ∷ 0 ∷ 0 ∷ 0 ∷ 0 ∷ 0 ∷ 0 ∷ 0 ∷ 0 ∷ 12 ∷ 8 ∷ 2 ∷ 0 ∷ 1 ∷ 0 ∷ 255 ∷ 255 ∷ 0 ∷ 0 ∷ 0 ∷ 0 ∷ 0 ∷ 0 ∷ 0 ∷ 0 ∷ 0 ∷ 0 ∷ 0 ∷ 0 ∷ 12 ∷ 8 ∷ 3 ∷ 0 ∷ 1 ∷ 0 ∷ 0 ∷ 0 ∷ 0 ∷ 0 ∷ 0 ∷ 0 ∷ 0 ∷ 0 ∷ 0 ∷ 0 ∷ 0 ∷ 0 ∷ 0 ∷ 0 ∷ 0 ∷ 0 ∷ 3 ∷ 0 ∷ 5 ∷ 0 ∷ 0 ∷ 0 ∷ 97 ∷ 98 ∷ 99 ∷ 100 ∷ 101 ∷ 102 ∷ 97 ∷ 98 ∷ 99 ∷ []);
      text = (97 ∷ 98 ∷ 99 ∷ 113 ∷ []);
      operations = 50;
      names = 10;
      modules = 0;
      host = (scripted ((evaluation None None (eval.Value (v.Number (pos 3)))) ∷ []) []);
      first = [];
      second = [];
      opening = lend 128 16 64;
      calls = ((lend 128 16 64, run false) ∷ []);
      check = (passes (Some 4));
      answers = ((ran (told 24 (value (v.Number (pos 3))) 3 1) 4 [] []) ∷ []);
    }
    ∷  -- catch-value-becomes-unit
    record {
      image = (82 ∷ 72 ∷ 83 ∷ 1 ∷ 0 ∷ 0 ∷ 3 ∷ 0 ∷ 3 ∷ 0 ∷ 1 ∷ 0 ∷ 9 ∷ 0 ∷ 0 ∷ 0 ∷ 1 ∷ 0 ∷ 1 ∷ 0 ∷ 1 ∷ 0 ∷ 2 ∷ 0 ∷ 1 ∷ 0 ∷ 11 ∷ 0 ∷ 1 ∷ 0 ∷ 1 ∷ 0 ∷ 0 ∷ 0 ∷ 1 ∷ 0 ∷ 2 ∷ 0 ∷ 0 ∷ 0 ∷ 0 ∷ 0 ∷ 0 ∷ 0 ∷ 0 ∷ 0 ∷ 12 ∷ 8 ∷ 2 ∷ 0 ∷ 1 ∷ 0 ∷ 255 ∷ 255 ∷ 0 ∷ 0 ∷ 0 ∷ 0 ∷ 0 ∷ 0 ∷ 0 ∷ 0 ∷ 0 ∷ 0 ∷ 0 ∷ 0 ∷ 1 ∷ 0 ∷ 3 ∷ 0 ∷ 1 ∷ 0 ∷ 0 ∷ 0 ∷ 0 ∷ 0 ∷ 0 ∷ 0 ∷ 0 ∷ 0 ∷ 0 ∷ 0 ∷ 0 ∷ 0 ∷ 0 ∷ 0 ∷ 0 ∷ 0 ∷ 3 ∷ 0 ∷ 5 ∷ 0 ∷ 0 ∷ 0 ∷ 97 ∷ 98 ∷ 99 ∷ 100 ∷ 101 ∷ 102 ∷ 97 ∷ 98 ∷ 99 ∷ []);
      text = (97 ∷ 98 ∷ 99 ∷ 113 ∷ []);
      operations = 50;
      names = 10;
      modules = 0;
      host = (scripted ((evaluation None None (eval.Value (v.Number (pos 3)))) ∷ []) []);
      first = [];
      second = [];
      opening = lend 128 16 64;
      calls = ((lend 128 16 64, run false) ∷ []);
      check = (passes (Some 4));
      answers = ((ran (told 0 (value v.Unit) 0 0) 4 [] []) ∷ []);
    }
    ∷  -- catch-value-becomes-unit-in-a-block
    record {
      image = (82 ∷ 72 ∷ 83 ∷ 1 ∷ 0 ∷ 0 ∷ 4 ∷ 0 ∷ 4 ∷ 0 ∷ 3 ∷ 0 ∷ 9 ∷ 0 ∷ 0 ∷ 0 ∷ 1 ∷ 0 ∷ 1 ∷ 0 ∷ 1 ∷ 0 ∷ 2 ∷ 0 ∷ 1 ∷ 0 ∷ 3 ∷ 0 ∷ 1 ∷ 0 ∷ 5 ∷ 0 ∷ 1 ∷ 0 ∷ 1 ∷ 0 ∷ 0 ∷ 0 ∷ 1 ∷ 0 ∷ 255 ∷ 255 ∷ 0 ∷ 0 ∷ 0 ∷ 0 ∷ 0 ∷ 0 ∷ 0 ∷ 0 ∷ 11 ∷ 0 ∷ 2 ∷ 0 ∷ 1 ∷ 0 ∷ 0 ∷ 0 ∷ 2 ∷ 0 ∷ 3 ∷ 0 ∷ 4 ∷ 0 ∷ 1 ∷ 0 ∷ 0 ∷ 0 ∷ 0 ∷ 0 ∷ 1 ∷ 0 ∷ 3 ∷ 0 ∷ 1 ∷ 0 ∷ 1 ∷ 0 ∷ 0 ∷ 0 ∷ 0 ∷ 0 ∷ 0 ∷ 0 ∷ 0 ∷ 0 ∷ 0 ∷ 0 ∷ 0 ∷ 0 ∷ 1 ∷ 0 ∷ 4 ∷ 0 ∷ 1 ∷ 0 ∷ 2 ∷ 0 ∷ 0 ∷ 0 ∷ 0 ∷ 0 ∷ 0 ∷ 0 ∷ 0 ∷ 0 ∷ 0 ∷ 0 ∷ 0 ∷ 0 ∷ 3 ∷ 0 ∷ 1 ∷ 0 ∷ 5 ∷ 0 ∷ 0 ∷ 0 ∷ 0 ∷ 0 ∷ 3 ∷ 0 ∷ 5 ∷ 0 ∷ 0 ∷ 0 ∷ 3 ∷ 0 ∷ 4 ∷ 0 ∷ 5 ∷ 0 ∷ 0 ∷ 0 ∷ 97 ∷ 98 ∷ 99 ∷ 100 ∷ 101 ∷ 102 ∷ 97 ∷ 98 ∷ 99 ∷ []);
      text = (97 ∷ 98 ∷ 99 ∷ 113 ∷ []);
      operations = 50;
      names = 10;
      modules = 0;
      host = (scripted ((evaluation None None (eval.Fault (fault 3 0 0 true))) ∷ []) []);
      first = [];
      second = [];
      opening = lend 128 16 64;
      calls = ((lend 128 16 64, run false) ∷ []);
      check = (passes (Some 7));
      answers = ((ran (told 0 (value v.Unit) 0 0) 7 [] []) ∷ []);
    }
    ∷  -- catch-value-becomes-unit-without-name
    record {
      image = (82 ∷ 72 ∷ 83 ∷ 1 ∷ 0 ∷ 0 ∷ 4 ∷ 0 ∷ 5 ∷ 0 ∷ 3 ∷ 0 ∷ 9 ∷ 0 ∷ 0 ∷ 0 ∷ 2 ∷ 0 ∷ 2 ∷ 0 ∷ 1 ∷ 0 ∷ 3 ∷ 0 ∷ 1 ∷ 0 ∷ 4 ∷ 0 ∷ 1 ∷ 0 ∷ 4 ∷ 0 ∷ 1 ∷ 0 ∷ 1 ∷ 0 ∷ 0 ∷ 0 ∷ 0 ∷ 0 ∷ 0 ∷ 0 ∷ 0 ∷ 0 ∷ 1 ∷ 0 ∷ 0 ∷ 0 ∷ 0 ∷ 0 ∷ 11 ∷ 0 ∷ 2 ∷ 0 ∷ 1 ∷ 0 ∷ 0 ∷ 0 ∷ 1 ∷ 0 ∷ 2 ∷ 0 ∷ 0 ∷ 0 ∷ 0 ∷ 0 ∷ 0 ∷ 0 ∷ 0 ∷ 0 ∷ 3 ∷ 0 ∷ 3 ∷ 0 ∷ 1 ∷ 0 ∷ 1 ∷ 0 ∷ 0 ∷ 0 ∷ 0 ∷ 0 ∷ 1 ∷ 0 ∷ 1 ∷ 0 ∷ 0 ∷ 0 ∷ 0 ∷ 0 ∷ 2 ∷ 0 ∷ 4 ∷ 0 ∷ 1 ∷ 0 ∷ 0 ∷ 0 ∷ 3 ∷ 0 ∷ 0 ∷ 0 ∷ 0 ∷ 0 ∷ 0 ∷ 0 ∷ 0 ∷ 0 ∷ 0 ∷ 0 ∷ 1 ∷ 0 ∷ 5 ∷ 0 ∷ 1 ∷ 0 ∷ 2 ∷ 0 ∷ 0 ∷ 0 ∷ 0 ∷ 0 ∷ 0 ∷ 0 ∷ 0 ∷ 0 ∷ 0 ∷ 0 ∷ 0 ∷ 0 ∷ 0 ∷ 0 ∷ 1 ∷ 0 ∷ 5 ∷ 0 ∷ 0 ∷ 0 ∷ 0 ∷ 0 ∷ 3 ∷ 0 ∷ 5 ∷ 0 ∷ 0 ∷ 0 ∷ 0 ∷ 0 ∷ 5 ∷ 0 ∷ 5 ∷ 0 ∷ 0 ∷ 0 ∷ 97 ∷ 98 ∷ 99 ∷ 100 ∷ 101 ∷ 102 ∷ 97 ∷ 98 ∷ 99 ∷ []);
      text = (97 ∷ 98 ∷ 99 ∷ 113 ∷ []);
      operations = 50;
      names = 10;
      modules = 0;
      host = (scripted ((evaluation None None (eval.Value (v.Number (pos 3)))) ∷ []) []);
      first = [];
      second = [];
      opening = lend 128 16 64;
      calls = ((lend 128 16 64, run false) ∷ []);
      check = (passes (Some 9));
      answers = ((ran (told 0 (value v.Unit) 0 0) 9 ((variable (place Rule 0 1) ReadWrite (v.Number (pos 3))) ∷ []) []) ∷ []);
    }
    ∷  -- try-value
    record {
      image = (82 ∷ 72 ∷ 83 ∷ 1 ∷ 0 ∷ 0 ∷ 2 ∷ 0 ∷ 2 ∷ 0 ∷ 1 ∷ 0 ∷ 9 ∷ 0 ∷ 0 ∷ 0 ∷ 1 ∷ 0 ∷ 1 ∷ 0 ∷ 1 ∷ 0 ∷ 11 ∷ 0 ∷ 1 ∷ 0 ∷ 1 ∷ 0 ∷ 0 ∷ 0 ∷ 1 ∷ 0 ∷ 255 ∷ 255 ∷ 0 ∷ 0 ∷ 0 ∷ 0 ∷ 0 ∷ 0 ∷ 0 ∷ 0 ∷ 1 ∷ 0 ∷ 2 ∷ 0 ∷ 1 ∷ 0 ∷ 0 ∷ 0 ∷ 0 ∷ 0 ∷ 0 ∷ 0 ∷ 0 ∷ 0 ∷ 0 ∷ 0 ∷ 0 ∷ 0 ∷ 0 ∷ 0 ∷ 0 ∷ 0 ∷ 2 ∷ 0 ∷ 5 ∷ 0 ∷ 0 ∷ 0 ∷ 97 ∷ 98 ∷ 99 ∷ 100 ∷ 101 ∷ 102 ∷ 97 ∷ 98 ∷ 99 ∷ []);
      text = (97 ∷ 98 ∷ 99 ∷ 113 ∷ []);
      operations = 50;
      names = 10;
      modules = 0;
      host = (scripted ((evaluation None None (eval.Value (v.Number (pos 3)))) ∷ []) []);
      first = [];
      second = [];
      opening = lend 128 16 64;
      calls = ((lend 128 16 64, run false) ∷ []);
      check = (passes (Some 3));
      answers = ((ran (told 0 (value (v.Number (pos 3))) 0 0) 3 [] []) ∷ []);
    }
    ∷  -- named-catch-at-the-limit-with-empty-block
    record {
      image = (82 ∷ 72 ∷ 83 ∷ 1 ∷ 0 ∷ 0 ∷ 2 ∷ 0 ∷ 3 ∷ 0 ∷ 1 ∷ 0 ∷ 9 ∷ 0 ∷ 0 ∷ 0 ∷ 2 ∷ 0 ∷ 2 ∷ 0 ∷ 1 ∷ 0 ∷ 4 ∷ 0 ∷ 1 ∷ 0 ∷ 1 ∷ 0 ∷ 0 ∷ 0 ∷ 0 ∷ 0 ∷ 0 ∷ 0 ∷ 0 ∷ 0 ∷ 1 ∷ 0 ∷ 0 ∷ 0 ∷ 0 ∷ 0 ∷ 11 ∷ 0 ∷ 2 ∷ 0 ∷ 1 ∷ 0 ∷ 0 ∷ 0 ∷ 1 ∷ 0 ∷ 255 ∷ 255 ∷ 4 ∷ 0 ∷ 1 ∷ 0 ∷ 0 ∷ 0 ∷ 0 ∷ 0 ∷ 12 ∷ 8 ∷ 3 ∷ 0 ∷ 1 ∷ 0 ∷ 255 ∷ 255 ∷ 0 ∷ 0 ∷ 0 ∷ 0 ∷ 0 ∷ 0 ∷ 0 ∷ 0 ∷ 0 ∷ 0 ∷ 0 ∷ 0 ∷ 0 ∷ 0 ∷ 1 ∷ 0 ∷ 5 ∷ 0 ∷ 0 ∷ 0 ∷ 97 ∷ 98 ∷ 99 ∷ 100 ∷ 101 ∷ 102 ∷ 97 ∷ 98 ∷ 99 ∷ []);
      text = (97 ∷ 98 ∷ 99 ∷ 113 ∷ []);
      operations = 50;
      names = 1;
      modules = 0;
      host = (scripted [] []);
      first = [];
      second = [];
      opening = lend 128 16 64;
      calls = ((lend 128 16 64, run false) ∷ []);
      check = (passes (Some 4));
      answers = ((ran (told 14 nothing 2 1) 4 ((variable (place Rule 0 1) ReadWrite v.Unit) ∷ []) []) ∷ []);
    }
    ∷  -- unnamed-catch-at-the-limit
    record {
      image = (82 ∷ 72 ∷ 83 ∷ 1 ∷ 0 ∷ 0 ∷ 2 ∷ 0 ∷ 3 ∷ 0 ∷ 1 ∷ 0 ∷ 9 ∷ 0 ∷ 0 ∷ 0 ∷ 2 ∷ 0 ∷ 2 ∷ 0 ∷ 1 ∷ 0 ∷ 4 ∷ 0 ∷ 1 ∷ 0 ∷ 1 ∷ 0 ∷ 0 ∷ 0 ∷ 0 ∷ 0 ∷ 0 ∷ 0 ∷ 0 ∷ 0 ∷ 1 ∷ 0 ∷ 0 ∷ 0 ∷ 0 ∷ 0 ∷ 11 ∷ 0 ∷ 2 ∷ 0 ∷ 1 ∷ 0 ∷ 0 ∷ 0 ∷ 1 ∷ 0 ∷ 255 ∷ 255 ∷ 0 ∷ 0 ∷ 0 ∷ 0 ∷ 0 ∷ 0 ∷ 0 ∷ 0 ∷ 12 ∷ 8 ∷ 3 ∷ 0 ∷ 1 ∷ 0 ∷ 255 ∷ 255 ∷ 0 ∷ 0 ∷ 0 ∷ 0 ∷ 0 ∷ 0 ∷ 0 ∷ 0 ∷ 0 ∷ 0 ∷ 0 ∷ 0 ∷ 0 ∷ 0 ∷ 1 ∷ 0 ∷ 5 ∷ 0 ∷ 0 ∷ 0 ∷ 97 ∷ 98 ∷ 99 ∷ 100 ∷ 101 ∷ 102 ∷ 97 ∷ 98 ∷ 99 ∷ []);
      text = (97 ∷ 98 ∷ 99 ∷ 113 ∷ []);
      operations = 50;
      names = 1;
      modules = 0;
      host = (scripted [] []);
      first = [];
      second = [];
      opening = lend 128 16 64;
      calls = ((lend 128 16 64, run false) ∷ []);
      check = (passes (Some 4));
      answers = ((ran (told 0 (value v.Unit) 0 0) 4 ((variable (place Rule 0 1) ReadWrite v.Unit) ∷ []) []) ∷ []);
    }
    ∷  -- catch-name-goes
    record {
      image = (82 ∷ 72 ∷ 83 ∷ 1 ∷ 0 ∷ 0 ∷ 3 ∷ 0 ∷ 4 ∷ 0 ∷ 2 ∷ 0 ∷ 9 ∷ 0 ∷ 0 ∷ 0 ∷ 2 ∷ 0 ∷ 2 ∷ 0 ∷ 1 ∷ 0 ∷ 3 ∷ 0 ∷ 1 ∷ 0 ∷ 11 ∷ 0 ∷ 1 ∷ 0 ∷ 1 ∷ 0 ∷ 0 ∷ 0 ∷ 1 ∷ 0 ∷ 2 ∷ 0 ∷ 4 ∷ 0 ∷ 1 ∷ 0 ∷ 0 ∷ 0 ∷ 0 ∷ 0 ∷ 1 ∷ 0 ∷ 2 ∷ 0 ∷ 1 ∷ 0 ∷ 0 ∷ 0 ∷ 0 ∷ 0 ∷ 0 ∷ 0 ∷ 0 ∷ 0 ∷ 0 ∷ 0 ∷ 0 ∷ 0 ∷ 0 ∷ 0 ∷ 12 ∷ 8 ∷ 3 ∷ 0 ∷ 1 ∷ 0 ∷ 255 ∷ 255 ∷ 0 ∷ 0 ∷ 0 ∷ 0 ∷ 0 ∷ 0 ∷ 0 ∷ 0 ∷ 0 ∷ 0 ∷ 0 ∷ 0 ∷ 3 ∷ 0 ∷ 4 ∷ 0 ∷ 1 ∷ 0 ∷ 1 ∷ 0 ∷ 0 ∷ 0 ∷ 0 ∷ 0 ∷ 4 ∷ 0 ∷ 1 ∷ 0 ∷ 1 ∷ 0 ∷ 0 ∷ 0 ∷ 0 ∷ 0 ∷ 2 ∷ 0 ∷ 5 ∷ 0 ∷ 0 ∷ 0 ∷ 0 ∷ 0 ∷ 4 ∷ 0 ∷ 5 ∷ 0 ∷ 0 ∷ 0 ∷ 97 ∷ 98 ∷ 99 ∷ 100 ∷ 101 ∷ 102 ∷ 97 ∷ 98 ∷ 99 ∷ []);
      text = (97 ∷ 98 ∷ 99 ∷ 113 ∷ []);
      operations = 50;
      names = 10;
      modules = 0;
      host = (scripted ((evaluation None None (eval.Value (v.Number (pos 1)))) ∷ (evaluation None None eval.Names) ∷ []) []);
      first = [];
      second = [];
      opening = lend 128 16 64;
      calls = ((lend 128 16 64, run false) ∷ []);
      check = (passes (Some 7));
      answers = ((ran (told 0 (value (v.Number (pos 0))) 0 0) 7 [] []) ∷ []);
    }
    ∷  -- refused-name-thrown-again
    record {
      image = (82 ∷ 72 ∷ 83 ∷ 1 ∷ 0 ∷ 0 ∷ 3 ∷ 0 ∷ 3 ∷ 0 ∷ 1 ∷ 0 ∷ 9 ∷ 0 ∷ 0 ∷ 0 ∷ 1 ∷ 0 ∷ 1 ∷ 0 ∷ 1 ∷ 0 ∷ 2 ∷ 0 ∷ 1 ∷ 0 ∷ 11 ∷ 0 ∷ 1 ∷ 0 ∷ 1 ∷ 0 ∷ 0 ∷ 0 ∷ 1 ∷ 0 ∷ 2 ∷ 0 ∷ 0 ∷ 0 ∷ 0 ∷ 0 ∷ 0 ∷ 0 ∷ 0 ∷ 0 ∷ 4 ∷ 0 ∷ 2 ∷ 0 ∷ 1 ∷ 0 ∷ 0 ∷ 0 ∷ 0 ∷ 0 ∷ 0 ∷ 0 ∷ 0 ∷ 0 ∷ 1 ∷ 0 ∷ 0 ∷ 0 ∷ 0 ∷ 0 ∷ 12 ∷ 8 ∷ 3 ∷ 0 ∷ 1 ∷ 0 ∷ 255 ∷ 255 ∷ 0 ∷ 0 ∷ 0 ∷ 0 ∷ 0 ∷ 0 ∷ 0 ∷ 0 ∷ 0 ∷ 0 ∷ 0 ∷ 0 ∷ 0 ∷ 0 ∷ 2 ∷ 0 ∷ 5 ∷ 0 ∷ 0 ∷ 0 ∷ 97 ∷ 98 ∷ 99 ∷ 100 ∷ 101 ∷ 102 ∷ 97 ∷ 98 ∷ 99 ∷ []);
      text = (97 ∷ 98 ∷ 99 ∷ 113 ∷ []);
      operations = 50;
      names = 10;
      modules = 0;
      host = (scripted [] ((declaration None None allow.No) ∷ []));
      first = [];
      second = [];
      opening = lend 128 16 64;
      calls = ((lend 128 16 64, run false) ∷ []);
      check = (passes (Some 4));
      answers = ((ran (told 13 (name (place Rule 0 1)) 3 1) 3 [] []) ∷ []);
    }
    ∷  -- limits-cannot-be-caught
    record {
      image = (82 ∷ 72 ∷ 83 ∷ 1 ∷ 0 ∷ 0 ∷ 2 ∷ 0 ∷ 3 ∷ 0 ∷ 2 ∷ 0 ∷ 9 ∷ 0 ∷ 0 ∷ 0 ∷ 1 ∷ 0 ∷ 1 ∷ 0 ∷ 2 ∷ 0 ∷ 11 ∷ 0 ∷ 1 ∷ 0 ∷ 1 ∷ 0 ∷ 0 ∷ 0 ∷ 1 ∷ 0 ∷ 255 ∷ 255 ∷ 0 ∷ 0 ∷ 0 ∷ 0 ∷ 0 ∷ 0 ∷ 0 ∷ 0 ∷ 4 ∷ 0 ∷ 2 ∷ 0 ∷ 1 ∷ 0 ∷ 0 ∷ 0 ∷ 0 ∷ 0 ∷ 0 ∷ 0 ∷ 0 ∷ 0 ∷ 1 ∷ 0 ∷ 0 ∷ 0 ∷ 0 ∷ 0 ∷ 4 ∷ 0 ∷ 3 ∷ 0 ∷ 1 ∷ 0 ∷ 1 ∷ 0 ∷ 0 ∷ 0 ∷ 0 ∷ 0 ∷ 1 ∷ 0 ∷ 1 ∷ 0 ∷ 0 ∷ 0 ∷ 0 ∷ 0 ∷ 0 ∷ 0 ∷ 2 ∷ 0 ∷ 5 ∷ 0 ∷ 0 ∷ 0 ∷ 0 ∷ 0 ∷ 3 ∷ 0 ∷ 5 ∷ 0 ∷ 0 ∷ 0 ∷ 97 ∷ 98 ∷ 99 ∷ 100 ∷ 101 ∷ 102 ∷ 97 ∷ 98 ∷ 99 ∷ []);
      text = (97 ∷ 98 ∷ 99 ∷ 113 ∷ []);
      operations = 50;
      names = 1;
      modules = 0;
      host = (scripted [] []);
      first = [];
      second = [];
      opening = lend 128 16 64;
      calls = ((lend 128 16 64, run false) ∷ []);
      check = (passes (Some 5));
      answers = ((ran (told 14 nothing 3 1) 4 [] []) ∷ []);
    }
    ∷  -- operations-cannot-be-caught
    record {
      image = (82 ∷ 72 ∷ 83 ∷ 1 ∷ 0 ∷ 0 ∷ 2 ∷ 0 ∷ 3 ∷ 0 ∷ 0 ∷ 0 ∷ 9 ∷ 0 ∷ 0 ∷ 0 ∷ 1 ∷ 0 ∷ 1 ∷ 0 ∷ 2 ∷ 0 ∷ 11 ∷ 0 ∷ 1 ∷ 0 ∷ 1 ∷ 0 ∷ 0 ∷ 0 ∷ 1 ∷ 0 ∷ 255 ∷ 255 ∷ 0 ∷ 0 ∷ 0 ∷ 0 ∷ 0 ∷ 0 ∷ 0 ∷ 0 ∷ 0 ∷ 0 ∷ 2 ∷ 0 ∷ 1 ∷ 0 ∷ 0 ∷ 0 ∷ 0 ∷ 0 ∷ 0 ∷ 0 ∷ 0 ∷ 0 ∷ 0 ∷ 0 ∷ 0 ∷ 0 ∷ 0 ∷ 0 ∷ 0 ∷ 0 ∷ 3 ∷ 0 ∷ 1 ∷ 0 ∷ 0 ∷ 0 ∷ 0 ∷ 0 ∷ 0 ∷ 0 ∷ 0 ∷ 0 ∷ 0 ∷ 0 ∷ 0 ∷ 0 ∷ 0 ∷ 0 ∷ 97 ∷ 98 ∷ 99 ∷ 100 ∷ 101 ∷ 102 ∷ 97 ∷ 98 ∷ 99 ∷ []);
      text = (97 ∷ 98 ∷ 99 ∷ 113 ∷ []);
      operations = 2;
      names = 10;
      modules = 0;
      host = (site []);
      first = [];
      second = [];
      opening = lend 128 16 64;
      calls = ((lend 128 16 64, run false) ∷ []);
      check = (passes (Some 3));
      answers = ((ran (told 12 nothing 3 1) 3 [] []) ∷ []);
    }
    ∷  -- modules-cannot-be-caught
    record {
      image = (82 ∷ 72 ∷ 83 ∷ 1 ∷ 0 ∷ 0 ∷ 2 ∷ 0 ∷ 2 ∷ 0 ∷ 1 ∷ 0 ∷ 9 ∷ 0 ∷ 0 ∷ 0 ∷ 1 ∷ 0 ∷ 1 ∷ 0 ∷ 1 ∷ 0 ∷ 11 ∷ 0 ∷ 1 ∷ 0 ∷ 1 ∷ 0 ∷ 0 ∷ 0 ∷ 1 ∷ 0 ∷ 255 ∷ 255 ∷ 0 ∷ 0 ∷ 0 ∷ 0 ∷ 0 ∷ 0 ∷ 0 ∷ 0 ∷ 13 ∷ 0 ∷ 2 ∷ 0 ∷ 1 ∷ 0 ∷ 0 ∷ 0 ∷ 0 ∷ 0 ∷ 0 ∷ 0 ∷ 0 ∷ 0 ∷ 0 ∷ 0 ∷ 0 ∷ 0 ∷ 0 ∷ 0 ∷ 0 ∷ 0 ∷ 2 ∷ 0 ∷ 5 ∷ 0 ∷ 0 ∷ 0 ∷ 97 ∷ 98 ∷ 99 ∷ 100 ∷ 101 ∷ 102 ∷ 97 ∷ 98 ∷ 99 ∷ []);
      text = (97 ∷ 98 ∷ 99 ∷ 113 ∷ []);
      operations = 50;
      names = 10;
      modules = 0;
      host = (scripted ((evaluation None None (eval.Value (v.Number (pos 1)))) ∷ []) []);
      first = ((row 1 (Ok (Some 7))) ∷ []);
      second = [];
      opening = lend 128 16 64;
      calls = ((lend 128 16 64, run false) ∷ []);
      check = (passes (Some 3));
      answers = ((ran (told 21 nothing 2 1) 2 [] []) ∷ []);
    }
    ∷  -- host-fault-in-a-catch-is-no-throw
    record {
      image = (82 ∷ 72 ∷ 83 ∷ 1 ∷ 0 ∷ 0 ∷ 3 ∷ 0 ∷ 3 ∷ 0 ∷ 2 ∷ 0 ∷ 9 ∷ 0 ∷ 0 ∷ 0 ∷ 1 ∷ 0 ∷ 1 ∷ 0 ∷ 1 ∷ 0 ∷ 2 ∷ 0 ∷ 1 ∷ 0 ∷ 11 ∷ 0 ∷ 1 ∷ 0 ∷ 1 ∷ 0 ∷ 0 ∷ 0 ∷ 1 ∷ 0 ∷ 2 ∷ 0 ∷ 0 ∷ 0 ∷ 0 ∷ 0 ∷ 0 ∷ 0 ∷ 0 ∷ 0 ∷ 12 ∷ 8 ∷ 2 ∷ 0 ∷ 1 ∷ 0 ∷ 0 ∷ 0 ∷ 0 ∷ 0 ∷ 0 ∷ 0 ∷ 0 ∷ 0 ∷ 0 ∷ 0 ∷ 0 ∷ 0 ∷ 0 ∷ 0 ∷ 1 ∷ 0 ∷ 3 ∷ 0 ∷ 1 ∷ 0 ∷ 1 ∷ 0 ∷ 0 ∷ 0 ∷ 0 ∷ 0 ∷ 0 ∷ 0 ∷ 0 ∷ 0 ∷ 0 ∷ 0 ∷ 0 ∷ 0 ∷ 0 ∷ 0 ∷ 2 ∷ 0 ∷ 5 ∷ 0 ∷ 0 ∷ 0 ∷ 0 ∷ 0 ∷ 3 ∷ 0 ∷ 5 ∷ 0 ∷ 0 ∷ 0 ∷ 97 ∷ 98 ∷ 99 ∷ 100 ∷ 101 ∷ 102 ∷ 97 ∷ 98 ∷ 99 ∷ []);
      text = (97 ∷ 98 ∷ 99 ∷ 113 ∷ []);
      operations = 50;
      names = 10;
      modules = 0;
      host = (scripted ((evaluation None None (eval.Value (v.Number (pos 4)))) ∷ (evaluation None None (eval.Fault (fault 2 0 0 true))) ∷ []) []);
      first = [];
      second = [];
      opening = lend 128 16 64;
      calls = ((lend 128 16 64, run false) ∷ []);
      check = (passes (Some 5));
      answers = ((ran (told 25 (code 2) 3 5) 5 [] []) ∷ []);
    }
    ∷  -- named-catch-at-the-limit-without-fault
    record {
      image = (82 ∷ 72 ∷ 83 ∷ 1 ∷ 0 ∷ 0 ∷ 2 ∷ 0 ∷ 3 ∷ 0 ∷ 2 ∷ 0 ∷ 9 ∷ 0 ∷ 0 ∷ 0 ∷ 2 ∷ 0 ∷ 2 ∷ 0 ∷ 1 ∷ 0 ∷ 4 ∷ 0 ∷ 1 ∷ 0 ∷ 1 ∷ 0 ∷ 0 ∷ 0 ∷ 0 ∷ 0 ∷ 0 ∷ 0 ∷ 0 ∷ 0 ∷ 1 ∷ 0 ∷ 0 ∷ 0 ∷ 0 ∷ 0 ∷ 11 ∷ 0 ∷ 2 ∷ 0 ∷ 1 ∷ 0 ∷ 0 ∷ 0 ∷ 1 ∷ 0 ∷ 255 ∷ 255 ∷ 4 ∷ 0 ∷ 1 ∷ 0 ∷ 0 ∷ 0 ∷ 0 ∷ 0 ∷ 1 ∷ 0 ∷ 3 ∷ 0 ∷ 1 ∷ 0 ∷ 1 ∷ 0 ∷ 0 ∷ 0 ∷ 0 ∷ 0 ∷ 0 ∷ 0 ∷ 0 ∷ 0 ∷ 0 ∷ 0 ∷ 0 ∷ 0 ∷ 0 ∷ 0 ∷ 1 ∷ 0 ∷ 5 ∷ 0 ∷ 0 ∷ 0 ∷ 0 ∷ 0 ∷ 3 ∷ 0 ∷ 5 ∷ 0 ∷ 0 ∷ 0 ∷ 97 ∷ 98 ∷ 99 ∷ 100 ∷ 101 ∷ 102 ∷ 97 ∷ 98 ∷ 99 ∷ []);
      text = (97 ∷ 98 ∷ 99 ∷ 113 ∷ []);
      operations = 50;
      names = 1;
      modules = 0;
      host = (scripted ((evaluation None None (eval.Value (v.Number (pos 1)))) ∷ (evaluation None None (eval.Value (v.Number (pos 3)))) ∷ []) []);
      first = [];
      second = [];
      opening = lend 128 16 64;
      calls = ((lend 128 16 64, run false) ∷ []);
      check = (passes (Some 5));
      answers = ((ran (told 0 (value (v.Number (pos 3))) 0 0) 5 ((variable (place Rule 0 1) ReadWrite (v.Number (pos 1))) ∷ []) []) ∷ []);
    }
    ∷  -- exit-in-a-catch
    record {
      image = (82 ∷ 72 ∷ 83 ∷ 1 ∷ 0 ∷ 0 ∷ 3 ∷ 0 ∷ 3 ∷ 0 ∷ 1 ∷ 0 ∷ 9 ∷ 0 ∷ 0 ∷ 0 ∷ 1 ∷ 0 ∷ 1 ∷ 0 ∷ 1 ∷ 0 ∷ 2 ∷ 0 ∷ 1 ∷ 0 ∷ 11 ∷ 0 ∷ 1 ∷ 0 ∷ 1 ∷ 0 ∷ 0 ∷ 0 ∷ 1 ∷ 0 ∷ 2 ∷ 0 ∷ 4 ∷ 0 ∷ 1 ∷ 0 ∷ 0 ∷ 0 ∷ 0 ∷ 0 ∷ 12 ∷ 8 ∷ 2 ∷ 0 ∷ 1 ∷ 0 ∷ 255 ∷ 255 ∷ 0 ∷ 0 ∷ 0 ∷ 0 ∷ 0 ∷ 0 ∷ 0 ∷ 0 ∷ 0 ∷ 0 ∷ 0 ∷ 0 ∷ 1 ∷ 0 ∷ 3 ∷ 0 ∷ 1 ∷ 0 ∷ 0 ∷ 0 ∷ 0 ∷ 0 ∷ 0 ∷ 0 ∷ 0 ∷ 0 ∷ 0 ∷ 0 ∷ 0 ∷ 0 ∷ 0 ∷ 0 ∷ 0 ∷ 0 ∷ 3 ∷ 0 ∷ 5 ∷ 0 ∷ 0 ∷ 0 ∷ 97 ∷ 98 ∷ 99 ∷ 100 ∷ 101 ∷ 102 ∷ 97 ∷ 98 ∷ 99 ∷ []);
      text = (97 ∷ 98 ∷ 99 ∷ 113 ∷ []);
      operations = 50;
      names = 10;
      modules = 0;
      host = (scripted ((evaluation None None (eval.Exit (v.Number (pos 6)))) ∷ []) []);
      first = [];
      second = [];
      opening = lend 128 16 64;
      calls = ((lend 128 16 64, run false) ∷ (lend 128 16 64, run true) ∷ []);
      check = (passes (Some 4));
      answers = ((ran (told 26 (value (v.Number (pos 6))) 3 5) 4 [] []) ∷ (ran (told 0 (value (v.Number (pos 6))) 0 0) 4 [] []) ∷ []);
    }
    ∷  -- caught-refused-name-is-its-number
    record {
      image = (82 ∷ 72 ∷ 83 ∷ 1 ∷ 0 ∷ 0 ∷ 3 ∷ 0 ∷ 3 ∷ 0 ∷ 2 ∷ 0 ∷ 9 ∷ 0 ∷ 0 ∷ 0 ∷ 1 ∷ 0 ∷ 1 ∷ 0 ∷ 1 ∷ 0 ∷ 2 ∷ 0 ∷ 1 ∷ 0 ∷ 11 ∷ 0 ∷ 1 ∷ 0 ∷ 1 ∷ 0 ∷ 0 ∷ 0 ∷ 1 ∷ 0 ∷ 2 ∷ 0 ∷ 4 ∷ 0 ∷ 1 ∷ 0 ∷ 0 ∷ 0 ∷ 0 ∷ 0 ∷ 4 ∷ 0 ∷ 2 ∷ 0 ∷ 1 ∷ 0 ∷ 0 ∷ 0 ∷ 0 ∷ 0 ∷ 0 ∷ 0 ∷ 0 ∷ 0 ∷ 1 ∷ 0 ∷ 0 ∷ 0 ∷ 0 ∷ 0 ∷ 12 ∷ 0 ∷ 3 ∷ 0 ∷ 1 ∷ 0 ∷ 1 ∷ 0 ∷ 0 ∷ 0 ∷ 0 ∷ 0 ∷ 0 ∷ 0 ∷ 0 ∷ 0 ∷ 0 ∷ 0 ∷ 0 ∷ 0 ∷ 1 ∷ 0 ∷ 2 ∷ 0 ∷ 5 ∷ 0 ∷ 0 ∷ 0 ∷ 0 ∷ 0 ∷ 3 ∷ 0 ∷ 5 ∷ 0 ∷ 0 ∷ 0 ∷ 97 ∷ 98 ∷ 99 ∷ 100 ∷ 101 ∷ 102 ∷ 97 ∷ 98 ∷ 99 ∷ []);
      text = (97 ∷ 98 ∷ 99 ∷ 113 ∷ []);
      operations = 50;
      names = 10;
      modules = 0;
      host = (scripted ((evaluation None None (eval.Row 1)) ∷ []) ((declaration None None allow.No) ∷ []));
      first = [];
      second = [];
      opening = lend 128 16 64;
      calls = ((lend 128 16 64, run false) ∷ []);
      check = (passes (Some 5));
      answers = ((ran (told 0 (value (v.Number (pos 13))) 0 0) 4 [] []) ∷ []);
    }
    ∷  -- caught-wrong-kind-is-its-number
    record {
      image = (82 ∷ 72 ∷ 83 ∷ 1 ∷ 0 ∷ 0 ∷ 3 ∷ 0 ∷ 3 ∷ 0 ∷ 2 ∷ 0 ∷ 9 ∷ 0 ∷ 0 ∷ 0 ∷ 1 ∷ 0 ∷ 1 ∷ 0 ∷ 1 ∷ 0 ∷ 2 ∷ 0 ∷ 1 ∷ 0 ∷ 11 ∷ 0 ∷ 1 ∷ 0 ∷ 1 ∷ 0 ∷ 0 ∷ 0 ∷ 1 ∷ 0 ∷ 2 ∷ 0 ∷ 4 ∷ 0 ∷ 1 ∷ 0 ∷ 0 ∷ 0 ∷ 0 ∷ 0 ∷ 5 ∷ 0 ∷ 2 ∷ 0 ∷ 1 ∷ 0 ∷ 0 ∷ 0 ∷ 255 ∷ 255 ∷ 255 ∷ 255 ∷ 0 ∷ 0 ∷ 0 ∷ 0 ∷ 0 ∷ 0 ∷ 0 ∷ 0 ∷ 12 ∷ 0 ∷ 3 ∷ 0 ∷ 1 ∷ 0 ∷ 1 ∷ 0 ∷ 0 ∷ 0 ∷ 0 ∷ 0 ∷ 0 ∷ 0 ∷ 0 ∷ 0 ∷ 0 ∷ 0 ∷ 0 ∷ 0 ∷ 1 ∷ 0 ∷ 2 ∷ 0 ∷ 5 ∷ 0 ∷ 0 ∷ 0 ∷ 0 ∷ 0 ∷ 3 ∷ 0 ∷ 5 ∷ 0 ∷ 0 ∷ 0 ∷ 97 ∷ 98 ∷ 99 ∷ 100 ∷ 101 ∷ 102 ∷ 97 ∷ 98 ∷ 99 ∷ []);
      text = (97 ∷ 98 ∷ 99 ∷ 113 ∷ []);
      operations = 50;
      names = 10;
      modules = 0;
      host = (scripted ((evaluation None None (eval.Row 1)) ∷ []) []);
      first = [];
      second = [];
      opening = lend 128 16 64;
      calls = ((lend 128 16 64, run false) ∷ []);
      check = (passes (Some 5));
      answers = ((ran (told 0 (value (v.Number (pos 15))) 0 0) 5 [] []) ∷ []);
    }
    ∷  -- caught-value-that-is-not-iterable-is-its-number
    record {
      image = (82 ∷ 72 ∷ 83 ∷ 1 ∷ 0 ∷ 0 ∷ 3 ∷ 0 ∷ 3 ∷ 0 ∷ 2 ∷ 0 ∷ 9 ∷ 0 ∷ 0 ∷ 0 ∷ 1 ∷ 0 ∷ 1 ∷ 0 ∷ 1 ∷ 0 ∷ 2 ∷ 0 ∷ 1 ∷ 0 ∷ 11 ∷ 0 ∷ 1 ∷ 0 ∷ 1 ∷ 0 ∷ 0 ∷ 0 ∷ 1 ∷ 0 ∷ 2 ∷ 0 ∷ 4 ∷ 0 ∷ 1 ∷ 0 ∷ 0 ∷ 0 ∷ 0 ∷ 0 ∷ 9 ∷ 0 ∷ 2 ∷ 0 ∷ 1 ∷ 0 ∷ 0 ∷ 0 ∷ 255 ∷ 255 ∷ 0 ∷ 0 ∷ 0 ∷ 0 ∷ 1 ∷ 0 ∷ 0 ∷ 0 ∷ 0 ∷ 0 ∷ 12 ∷ 0 ∷ 3 ∷ 0 ∷ 1 ∷ 0 ∷ 1 ∷ 0 ∷ 0 ∷ 0 ∷ 0 ∷ 0 ∷ 0 ∷ 0 ∷ 0 ∷ 0 ∷ 0 ∷ 0 ∷ 0 ∷ 0 ∷ 1 ∷ 0 ∷ 2 ∷ 0 ∷ 5 ∷ 0 ∷ 0 ∷ 0 ∷ 0 ∷ 0 ∷ 3 ∷ 0 ∷ 5 ∷ 0 ∷ 0 ∷ 0 ∷ 97 ∷ 98 ∷ 99 ∷ 100 ∷ 101 ∷ 102 ∷ 97 ∷ 98 ∷ 99 ∷ []);
      text = (97 ∷ 98 ∷ 99 ∷ 113 ∷ []);
      operations = 50;
      names = 10;
      modules = 0;
      host = (scripted ((evaluation None None (eval.Row 1)) ∷ []) []);
      first = [];
      second = [];
      opening = lend 128 16 64;
      calls = ((lend 128 16 64, run false) ∷ []);
      check = (passes None);
      answers = ((ran (told 0 (value (v.Number (pos 16))) 0 0) 5 [] []) ∷ []);
    }
    ∷  -- caught-constant-is-its-number
    record {
      image = (82 ∷ 72 ∷ 83 ∷ 1 ∷ 0 ∷ 0 ∷ 3 ∷ 0 ∷ 4 ∷ 0 ∷ 3 ∷ 0 ∷ 9 ∷ 0 ∷ 0 ∷ 0 ∷ 2 ∷ 0 ∷ 2 ∷ 0 ∷ 1 ∷ 0 ∷ 3 ∷ 0 ∷ 1 ∷ 0 ∷ 4 ∷ 1 ∷ 1 ∷ 0 ∷ 1 ∷ 0 ∷ 0 ∷ 0 ∷ 0 ∷ 0 ∷ 0 ∷ 0 ∷ 0 ∷ 0 ∷ 1 ∷ 0 ∷ 0 ∷ 0 ∷ 0 ∷ 0 ∷ 11 ∷ 0 ∷ 2 ∷ 0 ∷ 1 ∷ 0 ∷ 0 ∷ 0 ∷ 1 ∷ 0 ∷ 2 ∷ 0 ∷ 4 ∷ 0 ∷ 1 ∷ 0 ∷ 0 ∷ 0 ∷ 0 ∷ 0 ∷ 3 ∷ 0 ∷ 3 ∷ 0 ∷ 1 ∷ 0 ∷ 1 ∷ 0 ∷ 0 ∷ 0 ∷ 0 ∷ 0 ∷ 0 ∷ 0 ∷ 1 ∷ 0 ∷ 0 ∷ 0 ∷ 0 ∷ 0 ∷ 12 ∷ 0 ∷ 4 ∷ 0 ∷ 1 ∷ 0 ∷ 2 ∷ 0 ∷ 0 ∷ 0 ∷ 0 ∷ 0 ∷ 0 ∷ 0 ∷ 0 ∷ 0 ∷ 0 ∷ 0 ∷ 0 ∷ 0 ∷ 1 ∷ 0 ∷ 1 ∷ 0 ∷ 5 ∷ 0 ∷ 0 ∷ 0 ∷ 3 ∷ 0 ∷ 3 ∷ 0 ∷ 5 ∷ 0 ∷ 0 ∷ 0 ∷ 0 ∷ 0 ∷ 4 ∷ 0 ∷ 5 ∷ 0 ∷ 0 ∷ 0 ∷ 97 ∷ 98 ∷ 99 ∷ 100 ∷ 101 ∷ 102 ∷ 97 ∷ 98 ∷ 99 ∷ []);
      text = (97 ∷ 98 ∷ 99 ∷ 113 ∷ []);
      operations = 50;
      names = 10;
      modules = 0;
      host = (scripted ((evaluation None None (eval.Row 1)) ∷ []) []);
      first = [];
      second = [];
      opening = lend 128 16 64;
      calls = ((lend 128 16 64, run false) ∷ []);
      check = (passes (Some 8));
      answers = ((ran (told 0 (value (v.Number (pos 19))) 0 0) 8 ((variable (place Rule 0 1) ConstantAccess v.Unit) ∷ []) []) ∷ []);
    }
    ∷  -- caught-unknown-operator-is-its-number
    record {
      image = (82 ∷ 72 ∷ 83 ∷ 1 ∷ 0 ∷ 0 ∷ 3 ∷ 0 ∷ 4 ∷ 0 ∷ 3 ∷ 0 ∷ 9 ∷ 0 ∷ 0 ∷ 0 ∷ 2 ∷ 0 ∷ 2 ∷ 0 ∷ 1 ∷ 0 ∷ 3 ∷ 0 ∷ 1 ∷ 0 ∷ 4 ∷ 0 ∷ 1 ∷ 0 ∷ 1 ∷ 0 ∷ 0 ∷ 0 ∷ 0 ∷ 0 ∷ 0 ∷ 0 ∷ 0 ∷ 0 ∷ 1 ∷ 0 ∷ 0 ∷ 0 ∷ 0 ∷ 0 ∷ 11 ∷ 0 ∷ 2 ∷ 0 ∷ 1 ∷ 0 ∷ 0 ∷ 0 ∷ 1 ∷ 0 ∷ 2 ∷ 0 ∷ 4 ∷ 0 ∷ 1 ∷ 0 ∷ 0 ∷ 0 ∷ 0 ∷ 0 ∷ 3 ∷ 0 ∷ 3 ∷ 0 ∷ 1 ∷ 0 ∷ 1 ∷ 0 ∷ 0 ∷ 0 ∷ 255 ∷ 255 ∷ 0 ∷ 0 ∷ 1 ∷ 0 ∷ 0 ∷ 0 ∷ 0 ∷ 0 ∷ 12 ∷ 0 ∷ 4 ∷ 0 ∷ 1 ∷ 0 ∷ 2 ∷ 0 ∷ 0 ∷ 0 ∷ 0 ∷ 0 ∷ 0 ∷ 0 ∷ 0 ∷ 0 ∷ 0 ∷ 0 ∷ 0 ∷ 0 ∷ 1 ∷ 0 ∷ 1 ∷ 0 ∷ 5 ∷ 0 ∷ 0 ∷ 0 ∷ 3 ∷ 0 ∷ 3 ∷ 0 ∷ 5 ∷ 0 ∷ 0 ∷ 0 ∷ 0 ∷ 0 ∷ 4 ∷ 0 ∷ 5 ∷ 0 ∷ 0 ∷ 0 ∷ 97 ∷ 98 ∷ 99 ∷ 100 ∷ 101 ∷ 102 ∷ 97 ∷ 98 ∷ 99 ∷ []);
      text = (97 ∷ 98 ∷ 99 ∷ 113 ∷ []);
      operations = 50;
      names = 10;
      modules = 0;
      host = (scripted ((evaluation None None (eval.Row 1)) ∷ []) []);
      first = [];
      second = [];
      opening = lend 128 16 64;
      calls = ((lend 128 16 64, run false) ∷ []);
      check = (passes (Some 8));
      answers = ((ran (told 0 (value (v.Number (pos 20))) 0 0) 8 ((variable (place Rule 0 1) ReadWrite v.Unit) ∷ []) []) ∷ []);
    }
    ∷  -- caught-import-not-found-is-its-number
    record {
      image = (82 ∷ 72 ∷ 83 ∷ 1 ∷ 0 ∷ 0 ∷ 3 ∷ 0 ∷ 3 ∷ 0 ∷ 2 ∷ 0 ∷ 9 ∷ 0 ∷ 0 ∷ 0 ∷ 1 ∷ 0 ∷ 1 ∷ 0 ∷ 1 ∷ 0 ∷ 2 ∷ 0 ∷ 1 ∷ 0 ∷ 11 ∷ 0 ∷ 1 ∷ 0 ∷ 1 ∷ 0 ∷ 0 ∷ 0 ∷ 1 ∷ 0 ∷ 2 ∷ 0 ∷ 4 ∷ 0 ∷ 1 ∷ 0 ∷ 0 ∷ 0 ∷ 0 ∷ 0 ∷ 13 ∷ 0 ∷ 2 ∷ 0 ∷ 1 ∷ 0 ∷ 0 ∷ 0 ∷ 0 ∷ 0 ∷ 0 ∷ 0 ∷ 0 ∷ 0 ∷ 0 ∷ 0 ∷ 0 ∷ 0 ∷ 0 ∷ 0 ∷ 12 ∷ 0 ∷ 3 ∷ 0 ∷ 1 ∷ 0 ∷ 1 ∷ 0 ∷ 0 ∷ 0 ∷ 0 ∷ 0 ∷ 0 ∷ 0 ∷ 0 ∷ 0 ∷ 0 ∷ 0 ∷ 0 ∷ 0 ∷ 0 ∷ 0 ∷ 2 ∷ 0 ∷ 5 ∷ 0 ∷ 0 ∷ 0 ∷ 0 ∷ 0 ∷ 3 ∷ 0 ∷ 5 ∷ 0 ∷ 0 ∷ 0 ∷ 97 ∷ 98 ∷ 99 ∷ 100 ∷ 101 ∷ 102 ∷ 97 ∷ 98 ∷ 99 ∷ []);
      text = (97 ∷ 98 ∷ 99 ∷ 113 ∷ []);
      operations = 50;
      names = 10;
      modules = 1;
      host = (scripted ((evaluation None None (eval.Value (v.Number (pos 2)))) ∷ (evaluation None None (eval.Row 1)) ∷ []) []);
      first = [];
      second = [];
      opening = lend 128 16 64;
      calls = ((lend 128 16 64, run false) ∷ []);
      check = (passes (Some 5));
      answers = ((ran (told 0 (value (v.Number (pos 22))) 0 0) 5 [] []) ∷ []);
    }
    ∷  -- imports-with-and-without-name
    record {
      image = (82 ∷ 72 ∷ 83 ∷ 1 ∷ 0 ∷ 0 ∷ 1 ∷ 0 ∷ 2 ∷ 0 ∷ 2 ∷ 0 ∷ 9 ∷ 0 ∷ 0 ∷ 0 ∷ 2 ∷ 0 ∷ 13 ∷ 0 ∷ 1 ∷ 0 ∷ 1 ∷ 0 ∷ 0 ∷ 0 ∷ 0 ∷ 0 ∷ 0 ∷ 0 ∷ 0 ∷ 0 ∷ 1 ∷ 0 ∷ 0 ∷ 0 ∷ 0 ∷ 0 ∷ 13 ∷ 0 ∷ 2 ∷ 0 ∷ 1 ∷ 0 ∷ 1 ∷ 0 ∷ 0 ∷ 0 ∷ 0 ∷ 0 ∷ 0 ∷ 0 ∷ 0 ∷ 0 ∷ 0 ∷ 0 ∷ 0 ∷ 0 ∷ 0 ∷ 0 ∷ 1 ∷ 0 ∷ 5 ∷ 0 ∷ 0 ∷ 0 ∷ 0 ∷ 0 ∷ 2 ∷ 0 ∷ 5 ∷ 0 ∷ 0 ∷ 0 ∷ 97 ∷ 98 ∷ 99 ∷ 100 ∷ 101 ∷ 102 ∷ 97 ∷ 98 ∷ 99 ∷ []);
      text = (97 ∷ 98 ∷ 99 ∷ 113 ∷ []);
      operations = 50;
      names = 10;
      modules = 2;
      host = (scripted ((evaluation None None (eval.Value (v.Number (pos 1)))) ∷ (evaluation None None (eval.Value (v.Number (pos 2)))) ∷ []) []);
      first = ((row 1 (Ok (Some 7))) ∷ (row 2 (Ok (Some 0))) ∷ []);
      second = [];
      opening = lend 128 16 64;
      calls = ((lend 128 16 64, run false) ∷ []);
      check = (passes (Some 4));
      answers = ((ran (told 0 (value v.Unit) 0 0) 4 [] ((import (place Rule 0 1) 7) ∷ (import (place Rule 0 0) 0) ∷ [])) ∷ []);
    }
    ∷  -- import-without-name-at-an-offset
    record {
      image = (82 ∷ 72 ∷ 83 ∷ 1 ∷ 0 ∷ 0 ∷ 1 ∷ 0 ∷ 1 ∷ 0 ∷ 1 ∷ 0 ∷ 9 ∷ 0 ∷ 0 ∷ 0 ∷ 1 ∷ 0 ∷ 13 ∷ 0 ∷ 1 ∷ 0 ∷ 1 ∷ 0 ∷ 0 ∷ 0 ∷ 0 ∷ 0 ∷ 0 ∷ 0 ∷ 3 ∷ 0 ∷ 0 ∷ 0 ∷ 0 ∷ 0 ∷ 0 ∷ 0 ∷ 0 ∷ 0 ∷ 1 ∷ 0 ∷ 5 ∷ 0 ∷ 0 ∷ 0 ∷ 97 ∷ 98 ∷ 99 ∷ 100 ∷ 101 ∷ 102 ∷ 97 ∷ 98 ∷ 99 ∷ []);
      text = (97 ∷ 98 ∷ 99 ∷ 113 ∷ []);
      operations = 50;
      names = 10;
      modules = 1;
      host = (scripted ((evaluation None None (eval.Value (v.Number (pos 1)))) ∷ []) []);
      first = ((row 1 (Ok (Some 7))) ∷ []);
      second = [];
      opening = lend 128 16 64;
      calls = ((lend 128 16 64, run false) ∷ []);
      check = (passes (Some 2));
      answers = ((ran (told 0 (value v.Unit) 0 0) 2 [] ((import (place Rule 0 0) 7) ∷ [])) ∷ []);
    }
    ∷  -- each-run-starts-without-modules
    record {
      image = (82 ∷ 72 ∷ 83 ∷ 1 ∷ 0 ∷ 0 ∷ 1 ∷ 0 ∷ 1 ∷ 0 ∷ 1 ∷ 0 ∷ 9 ∷ 0 ∷ 0 ∷ 0 ∷ 1 ∷ 0 ∷ 13 ∷ 0 ∷ 1 ∷ 0 ∷ 1 ∷ 0 ∷ 0 ∷ 0 ∷ 0 ∷ 0 ∷ 0 ∷ 0 ∷ 0 ∷ 0 ∷ 1 ∷ 0 ∷ 0 ∷ 0 ∷ 0 ∷ 0 ∷ 0 ∷ 0 ∷ 1 ∷ 0 ∷ 5 ∷ 0 ∷ 0 ∷ 0 ∷ 97 ∷ 98 ∷ 99 ∷ 100 ∷ 101 ∷ 102 ∷ 97 ∷ 98 ∷ 99 ∷ []);
      text = (97 ∷ 98 ∷ 99 ∷ 113 ∷ []);
      operations = 50;
      names = 10;
      modules = 1;
      host = (scripted ((evaluation None None (eval.Value (v.Number (pos 1)))) ∷ []) []);
      first = ((row 1 (Ok (Some 7))) ∷ []);
      second = [];
      opening = lend 128 16 64;
      calls = ((lend 128 16 64, run false) ∷ (lend 128 16 64, run false) ∷ []);
      check = (passes (Some 2));
      answers = ((ran (told 0 (value v.Unit) 0 0) 2 [] ((import (place Rule 0 1) 7) ∷ [])) ∷ (ran (told 0 (value v.Unit) 0 0) 2 [] ((import (place Rule 0 1) 7) ∷ [])) ∷ []);
    }
    ∷  -- imports-of-a-block-go-but-count
    record {
      image = (82 ∷ 72 ∷ 83 ∷ 1 ∷ 0 ∷ 0 ∷ 2 ∷ 0 ∷ 3 ∷ 0 ∷ 2 ∷ 0 ∷ 9 ∷ 0 ∷ 0 ∷ 0 ∷ 2 ∷ 0 ∷ 2 ∷ 0 ∷ 1 ∷ 0 ∷ 2 ∷ 0 ∷ 1 ∷ 0 ∷ 1 ∷ 0 ∷ 0 ∷ 0 ∷ 1 ∷ 0 ∷ 0 ∷ 0 ∷ 0 ∷ 0 ∷ 0 ∷ 0 ∷ 0 ∷ 0 ∷ 0 ∷ 0 ∷ 13 ∷ 0 ∷ 2 ∷ 0 ∷ 1 ∷ 0 ∷ 0 ∷ 0 ∷ 0 ∷ 0 ∷ 0 ∷ 0 ∷ 0 ∷ 0 ∷ 0 ∷ 0 ∷ 0 ∷ 0 ∷ 0 ∷ 0 ∷ 13 ∷ 0 ∷ 3 ∷ 0 ∷ 1 ∷ 0 ∷ 1 ∷ 0 ∷ 0 ∷ 0 ∷ 0 ∷ 0 ∷ 0 ∷ 0 ∷ 1 ∷ 0 ∷ 0 ∷ 0 ∷ 0 ∷ 0 ∷ 0 ∷ 0 ∷ 2 ∷ 0 ∷ 5 ∷ 0 ∷ 0 ∷ 0 ∷ 0 ∷ 0 ∷ 3 ∷ 0 ∷ 5 ∷ 0 ∷ 0 ∷ 0 ∷ 97 ∷ 98 ∷ 99 ∷ 100 ∷ 101 ∷ 102 ∷ 97 ∷ 98 ∷ 99 ∷ []);
      text = (97 ∷ 98 ∷ 99 ∷ 113 ∷ []);
      operations = 50;
      names = 10;
      modules = 1;
      host = (scripted ((evaluation None None (eval.Value (v.Number (pos 1)))) ∷ []) []);
      first = ((row 1 (Ok (Some 7))) ∷ []);
      second = [];
      opening = lend 128 16 64;
      calls = ((lend 128 16 64, run false) ∷ []);
      check = (passes (Some 5));
      answers = ((ran (told 21 nothing 2 1) 4 [] []) ∷ []);
    }
    ∷  -- failed-import-does-not-count
    record {
      image = (82 ∷ 72 ∷ 83 ∷ 1 ∷ 0 ∷ 0 ∷ 2 ∷ 0 ∷ 3 ∷ 0 ∷ 2 ∷ 0 ∷ 9 ∷ 0 ∷ 0 ∷ 0 ∷ 2 ∷ 0 ∷ 2 ∷ 0 ∷ 1 ∷ 0 ∷ 11 ∷ 0 ∷ 1 ∷ 0 ∷ 1 ∷ 0 ∷ 0 ∷ 0 ∷ 1 ∷ 0 ∷ 255 ∷ 255 ∷ 0 ∷ 0 ∷ 0 ∷ 0 ∷ 0 ∷ 0 ∷ 0 ∷ 0 ∷ 13 ∷ 0 ∷ 2 ∷ 0 ∷ 1 ∷ 0 ∷ 0 ∷ 0 ∷ 0 ∷ 0 ∷ 0 ∷ 0 ∷ 0 ∷ 0 ∷ 0 ∷ 0 ∷ 0 ∷ 0 ∷ 0 ∷ 0 ∷ 13 ∷ 0 ∷ 3 ∷ 0 ∷ 1 ∷ 0 ∷ 1 ∷ 0 ∷ 0 ∷ 0 ∷ 0 ∷ 0 ∷ 0 ∷ 0 ∷ 0 ∷ 0 ∷ 0 ∷ 0 ∷ 0 ∷ 0 ∷ 0 ∷ 0 ∷ 2 ∷ 0 ∷ 5 ∷ 0 ∷ 0 ∷ 0 ∷ 0 ∷ 0 ∷ 3 ∷ 0 ∷ 5 ∷ 0 ∷ 0 ∷ 0 ∷ 97 ∷ 98 ∷ 99 ∷ 100 ∷ 101 ∷ 102 ∷ 97 ∷ 98 ∷ 99 ∷ []);
      text = (97 ∷ 98 ∷ 99 ∷ 113 ∷ []);
      operations = 50;
      names = 10;
      modules = 1;
      host = (scripted ((evaluation None None (eval.Value (v.Number (pos 2)))) ∷ (evaluation None None (eval.Value (v.Number (pos 1)))) ∷ []) []);
      first = ((row 1 (Ok (Some 7))) ∷ []);
      second = [];
      opening = lend 128 16 64;
      calls = ((lend 128 16 64, run false) ∷ []);
      check = (passes (Some 5));
      answers = ((ran (told 0 (value v.Unit) 0 0) 5 [] ((import (place Rule 0 0) 7) ∷ [])) ∷ []);
    }
    ∷  -- import-without-modules
    record {
      image = (82 ∷ 72 ∷ 83 ∷ 1 ∷ 0 ∷ 0 ∷ 1 ∷ 0 ∷ 1 ∷ 0 ∷ 1 ∷ 0 ∷ 9 ∷ 0 ∷ 0 ∷ 0 ∷ 1 ∷ 0 ∷ 13 ∷ 0 ∷ 1 ∷ 0 ∷ 1 ∷ 0 ∷ 0 ∷ 0 ∷ 0 ∷ 0 ∷ 0 ∷ 0 ∷ 0 ∷ 0 ∷ 0 ∷ 0 ∷ 0 ∷ 0 ∷ 0 ∷ 0 ∷ 0 ∷ 0 ∷ 1 ∷ 0 ∷ 5 ∷ 0 ∷ 0 ∷ 0 ∷ 97 ∷ 98 ∷ 99 ∷ 100 ∷ 101 ∷ 102 ∷ 97 ∷ 98 ∷ 99 ∷ []);
      text = (97 ∷ 98 ∷ 99 ∷ 113 ∷ []);
      operations = 50;
      names = 10;
      modules = 0;
      host = (scripted ((evaluation None None (eval.Fault (fault 1 0 0 true))) ∷ []) []);
      first = [];
      second = [];
      opening = lend 128 16 64;
      calls = ((lend 128 16 64, run false) ∷ []);
      check = (passes (Some 2));
      answers = ((ran (told 21 nothing 1 1) 1 [] []) ∷ []);
    }
    ∷  -- import-of-no-path
    record {
      image = (82 ∷ 72 ∷ 83 ∷ 1 ∷ 0 ∷ 0 ∷ 1 ∷ 0 ∷ 1 ∷ 0 ∷ 1 ∷ 0 ∷ 9 ∷ 0 ∷ 0 ∷ 0 ∷ 1 ∷ 0 ∷ 13 ∷ 0 ∷ 1 ∷ 0 ∷ 1 ∷ 0 ∷ 0 ∷ 0 ∷ 0 ∷ 0 ∷ 0 ∷ 0 ∷ 0 ∷ 0 ∷ 0 ∷ 0 ∷ 0 ∷ 0 ∷ 0 ∷ 0 ∷ 0 ∷ 0 ∷ 1 ∷ 0 ∷ 5 ∷ 0 ∷ 0 ∷ 0 ∷ 97 ∷ 98 ∷ 99 ∷ 100 ∷ 101 ∷ 102 ∷ 97 ∷ 98 ∷ 99 ∷ []);
      text = (97 ∷ 98 ∷ 99 ∷ 113 ∷ []);
      operations = 50;
      names = 10;
      modules = 1;
      host = (scripted ((evaluation None None (eval.Value (v.Number (negsuc 0)))) ∷ []) []);
      first = [];
      second = [];
      opening = lend 128 16 64;
      calls = ((lend 128 16 64, run false) ∷ []);
      check = (passes (Some 2));
      answers = ((ran (told 15 nothing 1 5) 2 [] []) ∷ []);
    }
    ∷  -- import-not-found
    record {
      image = (82 ∷ 72 ∷ 83 ∷ 1 ∷ 0 ∷ 0 ∷ 1 ∷ 0 ∷ 1 ∷ 0 ∷ 1 ∷ 0 ∷ 9 ∷ 0 ∷ 0 ∷ 0 ∷ 1 ∷ 0 ∷ 13 ∷ 0 ∷ 1 ∷ 0 ∷ 1 ∷ 0 ∷ 0 ∷ 0 ∷ 0 ∷ 0 ∷ 0 ∷ 0 ∷ 0 ∷ 0 ∷ 0 ∷ 0 ∷ 0 ∷ 0 ∷ 0 ∷ 0 ∷ 0 ∷ 0 ∷ 1 ∷ 0 ∷ 5 ∷ 0 ∷ 0 ∷ 0 ∷ 97 ∷ 98 ∷ 99 ∷ 100 ∷ 101 ∷ 102 ∷ 97 ∷ 98 ∷ 99 ∷ []);
      text = (97 ∷ 98 ∷ 99 ∷ 113 ∷ []);
      operations = 50;
      names = 10;
      modules = 1;
      host = (scripted ((evaluation None None (eval.Value (v.Number (pos 4294967295)))) ∷ []) []);
      first = [];
      second = [];
      opening = lend 128 16 64;
      calls = ((lend 128 16 64, run false) ∷ []);
      check = (passes (Some 2));
      answers = ((ran (told 22 (path 4294967295) 1 5) 2 [] []) ∷ []);
    }
    ∷  -- first-row-counts
    record {
      image = (82 ∷ 72 ∷ 83 ∷ 1 ∷ 0 ∷ 0 ∷ 1 ∷ 0 ∷ 1 ∷ 0 ∷ 1 ∷ 0 ∷ 9 ∷ 0 ∷ 0 ∷ 0 ∷ 1 ∷ 0 ∷ 13 ∷ 0 ∷ 1 ∷ 0 ∷ 1 ∷ 0 ∷ 0 ∷ 0 ∷ 0 ∷ 0 ∷ 0 ∷ 0 ∷ 0 ∷ 0 ∷ 0 ∷ 0 ∷ 0 ∷ 0 ∷ 0 ∷ 0 ∷ 0 ∷ 0 ∷ 1 ∷ 0 ∷ 5 ∷ 0 ∷ 0 ∷ 0 ∷ 97 ∷ 98 ∷ 99 ∷ 100 ∷ 101 ∷ 102 ∷ 97 ∷ 98 ∷ 99 ∷ []);
      text = (97 ∷ 98 ∷ 99 ∷ 113 ∷ []);
      operations = 50;
      names = 10;
      modules = 1;
      host = (scripted ((evaluation None None (eval.Value (v.Number (pos 2)))) ∷ []) []);
      first = ((row 2 (Ok None)) ∷ (row 2 (Ok (Some 1))) ∷ []);
      second = [];
      opening = lend 128 16 64;
      calls = ((lend 128 16 64, run false) ∷ []);
      check = (passes (Some 2));
      answers = ((ran (told 22 (path 2) 1 5) 2 [] []) ∷ []);
    }
    ∷  -- second-table-for-what-the-first-does-not-find
    record {
      image = (82 ∷ 72 ∷ 83 ∷ 1 ∷ 0 ∷ 0 ∷ 1 ∷ 0 ∷ 2 ∷ 0 ∷ 2 ∷ 0 ∷ 9 ∷ 0 ∷ 0 ∷ 0 ∷ 2 ∷ 0 ∷ 13 ∷ 0 ∷ 1 ∷ 0 ∷ 1 ∷ 0 ∷ 0 ∷ 0 ∷ 0 ∷ 0 ∷ 0 ∷ 0 ∷ 0 ∷ 0 ∷ 0 ∷ 0 ∷ 0 ∷ 0 ∷ 0 ∷ 0 ∷ 13 ∷ 0 ∷ 2 ∷ 0 ∷ 1 ∷ 0 ∷ 1 ∷ 0 ∷ 0 ∷ 0 ∷ 0 ∷ 0 ∷ 0 ∷ 0 ∷ 0 ∷ 0 ∷ 0 ∷ 0 ∷ 0 ∷ 0 ∷ 0 ∷ 0 ∷ 1 ∷ 0 ∷ 5 ∷ 0 ∷ 0 ∷ 0 ∷ 0 ∷ 0 ∷ 2 ∷ 0 ∷ 5 ∷ 0 ∷ 0 ∷ 0 ∷ 97 ∷ 98 ∷ 99 ∷ 100 ∷ 101 ∷ 102 ∷ 97 ∷ 98 ∷ 99 ∷ []);
      text = (97 ∷ 98 ∷ 99 ∷ 113 ∷ []);
      operations = 50;
      names = 10;
      modules = 2;
      host = (scripted ((evaluation None None (eval.Value (v.Number (pos 2)))) ∷ (evaluation None None (eval.Value (v.Number (pos 3)))) ∷ []) []);
      first = ((row 2 (Ok None)) ∷ []);
      second = ((row 2 (Ok (Some 1))) ∷ (row 3 (Ok (Some 4))) ∷ []);
      opening = lend 128 16 64;
      calls = ((lend 128 16 64, run false) ∷ []);
      check = (passes (Some 4));
      answers = ((ran (told 0 (value v.Unit) 0 0) 4 [] ((import (place Rule 0 0) 1) ∷ (import (place Rule 0 0) 4) ∷ [])) ∷ []);
    }
    ∷  -- first-table-faults
    record {
      image = (82 ∷ 72 ∷ 83 ∷ 1 ∷ 0 ∷ 0 ∷ 1 ∷ 0 ∷ 1 ∷ 0 ∷ 1 ∷ 0 ∷ 9 ∷ 0 ∷ 0 ∷ 0 ∷ 1 ∷ 0 ∷ 13 ∷ 0 ∷ 1 ∷ 0 ∷ 1 ∷ 0 ∷ 0 ∷ 0 ∷ 0 ∷ 0 ∷ 0 ∷ 0 ∷ 0 ∷ 0 ∷ 0 ∷ 0 ∷ 0 ∷ 0 ∷ 0 ∷ 0 ∷ 0 ∷ 0 ∷ 1 ∷ 0 ∷ 5 ∷ 0 ∷ 0 ∷ 0 ∷ 97 ∷ 98 ∷ 99 ∷ 100 ∷ 101 ∷ 102 ∷ 97 ∷ 98 ∷ 99 ∷ []);
      text = (97 ∷ 98 ∷ 99 ∷ 113 ∷ []);
      operations = 50;
      names = 10;
      modules = 1;
      host = (scripted ((evaluation None None (eval.Value (v.Number (pos 2)))) ∷ []) []);
      first = ((row 2 (Err (fault 5 0 0 true))) ∷ []);
      second = ((row 2 (Ok (Some 1))) ∷ []);
      opening = lend 128 16 64;
      calls = ((lend 128 16 64, run false) ∷ []);
      check = (passes (Some 2));
      answers = ((ran (told 23 (code 5) 1 5) 2 [] []) ∷ []);
    }
    ∷  -- resolver-fault-with-position
    record {
      image = (82 ∷ 72 ∷ 83 ∷ 1 ∷ 0 ∷ 0 ∷ 1 ∷ 0 ∷ 1 ∷ 0 ∷ 1 ∷ 0 ∷ 9 ∷ 0 ∷ 0 ∷ 0 ∷ 1 ∷ 0 ∷ 13 ∷ 0 ∷ 1 ∷ 0 ∷ 1 ∷ 0 ∷ 0 ∷ 0 ∷ 0 ∷ 0 ∷ 0 ∷ 0 ∷ 0 ∷ 0 ∷ 0 ∷ 0 ∷ 0 ∷ 0 ∷ 0 ∷ 0 ∷ 0 ∷ 0 ∷ 1 ∷ 0 ∷ 5 ∷ 0 ∷ 0 ∷ 0 ∷ 97 ∷ 98 ∷ 99 ∷ 100 ∷ 101 ∷ 102 ∷ 97 ∷ 98 ∷ 99 ∷ []);
      text = (97 ∷ 98 ∷ 99 ∷ 113 ∷ []);
      operations = 50;
      names = 10;
      modules = 1;
      host = (scripted ((evaluation None None (eval.Value (v.Number (pos 2)))) ∷ []) []);
      first = ((row 2 (Err (fault 5 40 1 true))) ∷ []);
      second = [];
      opening = lend 128 16 64;
      calls = ((lend 128 16 64, run false) ∷ []);
      check = (passes (Some 2));
      answers = ((ran (told 23 (code 5) 40 1) 2 [] []) ∷ []);
    }
    ∷  -- resolver-fault-caught
    record {
      image = (82 ∷ 72 ∷ 83 ∷ 1 ∷ 0 ∷ 0 ∷ 3 ∷ 0 ∷ 3 ∷ 0 ∷ 2 ∷ 0 ∷ 9 ∷ 0 ∷ 0 ∷ 0 ∷ 1 ∷ 0 ∷ 1 ∷ 0 ∷ 1 ∷ 0 ∷ 2 ∷ 0 ∷ 1 ∷ 0 ∷ 11 ∷ 0 ∷ 1 ∷ 0 ∷ 1 ∷ 0 ∷ 0 ∷ 0 ∷ 1 ∷ 0 ∷ 2 ∷ 0 ∷ 4 ∷ 0 ∷ 1 ∷ 0 ∷ 0 ∷ 0 ∷ 0 ∷ 0 ∷ 13 ∷ 0 ∷ 2 ∷ 0 ∷ 1 ∷ 0 ∷ 0 ∷ 0 ∷ 0 ∷ 0 ∷ 0 ∷ 0 ∷ 0 ∷ 0 ∷ 0 ∷ 0 ∷ 0 ∷ 0 ∷ 0 ∷ 0 ∷ 12 ∷ 0 ∷ 3 ∷ 0 ∷ 1 ∷ 0 ∷ 1 ∷ 0 ∷ 0 ∷ 0 ∷ 0 ∷ 0 ∷ 0 ∷ 0 ∷ 0 ∷ 0 ∷ 0 ∷ 0 ∷ 0 ∷ 0 ∷ 0 ∷ 0 ∷ 2 ∷ 0 ∷ 5 ∷ 0 ∷ 0 ∷ 0 ∷ 0 ∷ 0 ∷ 3 ∷ 0 ∷ 5 ∷ 0 ∷ 0 ∷ 0 ∷ 97 ∷ 98 ∷ 99 ∷ 100 ∷ 101 ∷ 102 ∷ 97 ∷ 98 ∷ 99 ∷ []);
      text = (97 ∷ 98 ∷ 99 ∷ 113 ∷ []);
      operations = 50;
      names = 10;
      modules = 1;
      host = (scripted ((evaluation None None (eval.Value (v.Number (pos 2)))) ∷ (evaluation None None (eval.Row 1)) ∷ []) []);
      first = ((row 2 (Err (fault 5 40 1 true))) ∷ []);
      second = [];
      opening = lend 128 16 64;
      calls = ((lend 128 16 64, run false) ∷ []);
      check = (passes (Some 5));
      answers = ((ran (told 0 (value (v.Number (pos 23))) 0 0) 5 [] []) ∷ []);
    }
    ∷  -- resolver-fault-that-cannot-be-caught
    record {
      image = (82 ∷ 72 ∷ 83 ∷ 1 ∷ 0 ∷ 0 ∷ 2 ∷ 0 ∷ 2 ∷ 0 ∷ 1 ∷ 0 ∷ 9 ∷ 0 ∷ 0 ∷ 0 ∷ 1 ∷ 0 ∷ 1 ∷ 0 ∷ 1 ∷ 0 ∷ 11 ∷ 0 ∷ 1 ∷ 0 ∷ 1 ∷ 0 ∷ 0 ∷ 0 ∷ 1 ∷ 0 ∷ 255 ∷ 255 ∷ 4 ∷ 0 ∷ 1 ∷ 0 ∷ 0 ∷ 0 ∷ 0 ∷ 0 ∷ 13 ∷ 0 ∷ 2 ∷ 0 ∷ 1 ∷ 0 ∷ 0 ∷ 0 ∷ 0 ∷ 0 ∷ 0 ∷ 0 ∷ 0 ∷ 0 ∷ 0 ∷ 0 ∷ 0 ∷ 0 ∷ 0 ∷ 0 ∷ 0 ∷ 0 ∷ 2 ∷ 0 ∷ 5 ∷ 0 ∷ 0 ∷ 0 ∷ 97 ∷ 98 ∷ 99 ∷ 100 ∷ 101 ∷ 102 ∷ 97 ∷ 98 ∷ 99 ∷ []);
      text = (97 ∷ 98 ∷ 99 ∷ 113 ∷ []);
      operations = 50;
      names = 10;
      modules = 1;
      host = (scripted ((evaluation None None (eval.Value (v.Number (pos 2)))) ∷ []) []);
      first = ((row 2 (Err (fault 5 0 0 false))) ∷ []);
      second = [];
      opening = lend 128 16 64;
      calls = ((lend 128 16 64, run false) ∷ []);
      check = (passes (Some 3));
      answers = ((ran (told 23 (code 5) 2 5) 3 [] []) ∷ []);
    }
    ∷  -- imports-of-the-run-before-go
    record {
      image = (82 ∷ 72 ∷ 83 ∷ 1 ∷ 0 ∷ 0 ∷ 1 ∷ 0 ∷ 2 ∷ 0 ∷ 2 ∷ 0 ∷ 9 ∷ 0 ∷ 0 ∷ 0 ∷ 2 ∷ 0 ∷ 13 ∷ 0 ∷ 1 ∷ 0 ∷ 1 ∷ 0 ∷ 0 ∷ 0 ∷ 0 ∷ 0 ∷ 0 ∷ 0 ∷ 0 ∷ 0 ∷ 1 ∷ 0 ∷ 0 ∷ 0 ∷ 0 ∷ 0 ∷ 12 ∷ 0 ∷ 2 ∷ 0 ∷ 1 ∷ 0 ∷ 1 ∷ 0 ∷ 0 ∷ 0 ∷ 0 ∷ 0 ∷ 0 ∷ 0 ∷ 0 ∷ 0 ∷ 0 ∷ 0 ∷ 0 ∷ 0 ∷ 0 ∷ 0 ∷ 1 ∷ 0 ∷ 5 ∷ 0 ∷ 0 ∷ 0 ∷ 0 ∷ 0 ∷ 2 ∷ 0 ∷ 5 ∷ 0 ∷ 0 ∷ 0 ∷ 97 ∷ 98 ∷ 99 ∷ 100 ∷ 101 ∷ 102 ∷ 97 ∷ 98 ∷ 99 ∷ []);
      text = (97 ∷ 98 ∷ 99 ∷ 113 ∷ []);
      operations = 50;
      names = 10;
      modules = 1;
      host = (listed ((entry.Value 4) ∷ (entry.Value 5) ∷ (entry.Value 2) ∷ []));
      first = ((row 1 (Ok (Some 7))) ∷ []);
      second = [];
      opening = lend 128 16 64;
      calls = ((lend 128 16 64, run false) ∷ (lend 128 16 64, run false) ∷ []);
      check = (passes (Some 4));
      answers = ((ran (told 0 (value (v.Number (pos 2))) 0 0) 4 [] ((import (place Rule 0 1) 7) ∷ [])) ∷ (ran (told 15 nothing 1 5) 2 [] []) ∷ []);
    }
    ∷  -- expression-statement-charged-at-its-row
    record {
      image = (82 ∷ 72 ∷ 83 ∷ 1 ∷ 0 ∷ 0 ∷ 1 ∷ 0 ∷ 2 ∷ 0 ∷ 1 ∷ 0 ∷ 9 ∷ 0 ∷ 0 ∷ 0 ∷ 2 ∷ 0 ∷ 0 ∷ 0 ∷ 1 ∷ 0 ∷ 1 ∷ 0 ∷ 0 ∷ 0 ∷ 0 ∷ 0 ∷ 0 ∷ 0 ∷ 0 ∷ 0 ∷ 0 ∷ 0 ∷ 0 ∷ 0 ∷ 0 ∷ 0 ∷ 1 ∷ 0 ∷ 2 ∷ 0 ∷ 1 ∷ 0 ∷ 0 ∷ 0 ∷ 0 ∷ 0 ∷ 0 ∷ 0 ∷ 0 ∷ 0 ∷ 0 ∷ 0 ∷ 0 ∷ 0 ∷ 0 ∷ 0 ∷ 0 ∷ 0 ∷ 2 ∷ 0 ∷ 5 ∷ 0 ∷ 0 ∷ 0 ∷ 97 ∷ 98 ∷ 99 ∷ 100 ∷ 101 ∷ 102 ∷ 97 ∷ 98 ∷ 99 ∷ []);
      text = (97 ∷ 98 ∷ 99 ∷ 113 ∷ []);
      operations = 1;
      names = 10;
      modules = 0;
      host = (scripted [] []);
      first = [];
      second = [];
      opening = lend 128 16 64;
      calls = ((lend 128 16 64, run false) ∷ []);
      check = (passes (Some 3));
      answers = ((ran (told 12 nothing 2 1) 2 [] []) ∷ []);
    }
    ∷  -- evaluation-charged-at-the-expression
    record {
      image = (82 ∷ 72 ∷ 83 ∷ 1 ∷ 0 ∷ 0 ∷ 1 ∷ 0 ∷ 1 ∷ 0 ∷ 1 ∷ 0 ∷ 9 ∷ 0 ∷ 0 ∷ 0 ∷ 1 ∷ 0 ∷ 1 ∷ 0 ∷ 1 ∷ 0 ∷ 1 ∷ 0 ∷ 0 ∷ 0 ∷ 0 ∷ 0 ∷ 0 ∷ 0 ∷ 0 ∷ 0 ∷ 0 ∷ 0 ∷ 0 ∷ 0 ∷ 0 ∷ 0 ∷ 0 ∷ 0 ∷ 1 ∷ 0 ∷ 5 ∷ 0 ∷ 0 ∷ 0 ∷ 97 ∷ 98 ∷ 99 ∷ 100 ∷ 101 ∷ 102 ∷ 97 ∷ 98 ∷ 99 ∷ []);
      text = (97 ∷ 98 ∷ 99 ∷ 113 ∷ []);
      operations = 1;
      names = 10;
      modules = 0;
      host = (scripted [] []);
      first = [];
      second = [];
      opening = lend 128 16 64;
      calls = ((lend 128 16 64, run false) ∷ []);
      check = (passes (Some 2));
      answers = ((ran (told 12 nothing 1 5) 2 [] []) ∷ []);
    }
    ∷  -- return-through-blocks
    record {
      image = (82 ∷ 72 ∷ 83 ∷ 1 ∷ 0 ∷ 0 ∷ 3 ∷ 0 ∷ 4 ∷ 0 ∷ 2 ∷ 0 ∷ 9 ∷ 0 ∷ 0 ∷ 0 ∷ 1 ∷ 0 ∷ 1 ∷ 0 ∷ 2 ∷ 0 ∷ 3 ∷ 0 ∷ 1 ∷ 0 ∷ 2 ∷ 0 ∷ 1 ∷ 0 ∷ 1 ∷ 0 ∷ 0 ∷ 0 ∷ 1 ∷ 0 ∷ 0 ∷ 0 ∷ 0 ∷ 0 ∷ 0 ∷ 0 ∷ 0 ∷ 0 ∷ 0 ∷ 0 ∷ 4 ∷ 0 ∷ 2 ∷ 0 ∷ 1 ∷ 0 ∷ 0 ∷ 0 ∷ 0 ∷ 0 ∷ 0 ∷ 0 ∷ 0 ∷ 0 ∷ 1 ∷ 0 ∷ 0 ∷ 0 ∷ 0 ∷ 0 ∷ 11 ∷ 0 ∷ 3 ∷ 0 ∷ 1 ∷ 0 ∷ 0 ∷ 0 ∷ 2 ∷ 0 ∷ 255 ∷ 255 ∷ 0 ∷ 0 ∷ 0 ∷ 0 ∷ 0 ∷ 0 ∷ 0 ∷ 0 ∷ 12 ∷ 0 ∷ 4 ∷ 0 ∷ 1 ∷ 0 ∷ 1 ∷ 0 ∷ 0 ∷ 0 ∷ 0 ∷ 0 ∷ 0 ∷ 0 ∷ 0 ∷ 0 ∷ 0 ∷ 0 ∷ 0 ∷ 0 ∷ 0 ∷ 0 ∷ 2 ∷ 0 ∷ 5 ∷ 0 ∷ 0 ∷ 0 ∷ 0 ∷ 0 ∷ 4 ∷ 0 ∷ 5 ∷ 0 ∷ 0 ∷ 0 ∷ 97 ∷ 98 ∷ 99 ∷ 100 ∷ 101 ∷ 102 ∷ 97 ∷ 98 ∷ 99 ∷ []);
      text = (97 ∷ 98 ∷ 99 ∷ 113 ∷ []);
      operations = 50;
      names = 10;
      modules = 0;
      host = (scripted ((evaluation None None (eval.Value (v.Number (pos 4)))) ∷ []) []);
      first = [];
      second = [];
      opening = lend 128 16 64;
      calls = ((lend 128 16 64, run false) ∷ []);
      check = (passes (Some 6));
      answers = ((ran (told 0 (value (v.Number (pos 4))) 0 0) 6 [] []) ∷ []);
    }
    ∷  -- return-without-value
    record {
      image = (82 ∷ 72 ∷ 83 ∷ 1 ∷ 0 ∷ 0 ∷ 1 ∷ 0 ∷ 3 ∷ 0 ∷ 1 ∷ 0 ∷ 9 ∷ 0 ∷ 0 ∷ 0 ∷ 3 ∷ 0 ∷ 1 ∷ 0 ∷ 1 ∷ 0 ∷ 1 ∷ 0 ∷ 0 ∷ 0 ∷ 0 ∷ 0 ∷ 0 ∷ 0 ∷ 0 ∷ 0 ∷ 0 ∷ 0 ∷ 0 ∷ 0 ∷ 0 ∷ 0 ∷ 12 ∷ 0 ∷ 2 ∷ 0 ∷ 1 ∷ 0 ∷ 255 ∷ 255 ∷ 0 ∷ 0 ∷ 0 ∷ 0 ∷ 0 ∷ 0 ∷ 0 ∷ 0 ∷ 0 ∷ 0 ∷ 0 ∷ 0 ∷ 0 ∷ 0 ∷ 3 ∷ 0 ∷ 1 ∷ 0 ∷ 0 ∷ 0 ∷ 0 ∷ 0 ∷ 0 ∷ 0 ∷ 0 ∷ 0 ∷ 0 ∷ 0 ∷ 0 ∷ 0 ∷ 0 ∷ 0 ∷ 0 ∷ 0 ∷ 1 ∷ 0 ∷ 5 ∷ 0 ∷ 0 ∷ 0 ∷ 97 ∷ 98 ∷ 99 ∷ 100 ∷ 101 ∷ 102 ∷ 97 ∷ 98 ∷ 99 ∷ []);
      text = (97 ∷ 98 ∷ 99 ∷ 113 ∷ []);
      operations = 50;
      names = 10;
      modules = 0;
      host = (scripted ((evaluation None None (eval.Value (v.Number (pos 4)))) ∷ []) []);
      first = [];
      second = [];
      opening = lend 128 16 64;
      calls = ((lend 128 16 64, run false) ∷ []);
      check = (passes (Some 4));
      answers = ((ran (told 0 (value v.Unit) 0 0) 3 [] []) ∷ []);
    }
    ∷  -- exit-as-fault
    record {
      image = (82 ∷ 72 ∷ 83 ∷ 1 ∷ 0 ∷ 0 ∷ 2 ∷ 0 ∷ 2 ∷ 0 ∷ 1 ∷ 0 ∷ 9 ∷ 0 ∷ 0 ∷ 0 ∷ 1 ∷ 0 ∷ 1 ∷ 0 ∷ 1 ∷ 0 ∷ 11 ∷ 0 ∷ 1 ∷ 0 ∷ 1 ∷ 0 ∷ 0 ∷ 0 ∷ 1 ∷ 0 ∷ 255 ∷ 255 ∷ 4 ∷ 0 ∷ 1 ∷ 0 ∷ 0 ∷ 0 ∷ 0 ∷ 0 ∷ 1 ∷ 0 ∷ 2 ∷ 0 ∷ 1 ∷ 0 ∷ 0 ∷ 0 ∷ 0 ∷ 0 ∷ 0 ∷ 0 ∷ 0 ∷ 0 ∷ 0 ∷ 0 ∷ 0 ∷ 0 ∷ 0 ∷ 0 ∷ 0 ∷ 0 ∷ 2 ∷ 0 ∷ 5 ∷ 0 ∷ 0 ∷ 0 ∷ 97 ∷ 98 ∷ 99 ∷ 100 ∷ 101 ∷ 102 ∷ 97 ∷ 98 ∷ 99 ∷ []);
      text = (97 ∷ 98 ∷ 99 ∷ 113 ∷ []);
      operations = 50;
      names = 10;
      modules = 0;
      host = (scripted ((evaluation None None (eval.Exit (v.Number (pos 6)))) ∷ []) []);
      first = [];
      second = [];
      opening = lend 128 16 64;
      calls = ((lend 128 16 64, run false) ∷ []);
      check = (passes (Some 3));
      answers = ((ran (told 26 (value (v.Number (pos 6))) 2 5) 3 [] []) ∷ []);
    }
    ∷  -- exit-as-value
    record {
      image = (82 ∷ 72 ∷ 83 ∷ 1 ∷ 0 ∷ 0 ∷ 2 ∷ 0 ∷ 2 ∷ 0 ∷ 1 ∷ 0 ∷ 9 ∷ 0 ∷ 0 ∷ 0 ∷ 1 ∷ 0 ∷ 1 ∷ 0 ∷ 1 ∷ 0 ∷ 11 ∷ 0 ∷ 1 ∷ 0 ∷ 1 ∷ 0 ∷ 0 ∷ 0 ∷ 1 ∷ 0 ∷ 255 ∷ 255 ∷ 4 ∷ 0 ∷ 1 ∷ 0 ∷ 0 ∷ 0 ∷ 0 ∷ 0 ∷ 1 ∷ 0 ∷ 2 ∷ 0 ∷ 1 ∷ 0 ∷ 0 ∷ 0 ∷ 0 ∷ 0 ∷ 0 ∷ 0 ∷ 0 ∷ 0 ∷ 0 ∷ 0 ∷ 0 ∷ 0 ∷ 0 ∷ 0 ∷ 0 ∷ 0 ∷ 2 ∷ 0 ∷ 5 ∷ 0 ∷ 0 ∷ 0 ∷ 97 ∷ 98 ∷ 99 ∷ 100 ∷ 101 ∷ 102 ∷ 97 ∷ 98 ∷ 99 ∷ []);
      text = (97 ∷ 98 ∷ 99 ∷ 113 ∷ []);
      operations = 50;
      names = 10;
      modules = 0;
      host = (scripted ((evaluation None None (eval.Exit (v.Number (pos 6)))) ∷ []) []);
      first = [];
      second = [];
      opening = lend 128 16 64;
      calls = ((lend 128 16 64, run true) ∷ []);
      check = (passes (Some 3));
      answers = ((ran (told 0 (value (v.Number (pos 6))) 0 0) 3 [] []) ∷ []);
    }
    ∷  -- list-used-up
    record {
      image = (82 ∷ 72 ∷ 83 ∷ 1 ∷ 0 ∷ 0 ∷ 2 ∷ 0 ∷ 3 ∷ 0 ∷ 2 ∷ 0 ∷ 9 ∷ 0 ∷ 0 ∷ 0 ∷ 1 ∷ 0 ∷ 1 ∷ 0 ∷ 2 ∷ 0 ∷ 11 ∷ 0 ∷ 1 ∷ 0 ∷ 1 ∷ 0 ∷ 0 ∷ 0 ∷ 1 ∷ 0 ∷ 255 ∷ 255 ∷ 0 ∷ 0 ∷ 0 ∷ 0 ∷ 0 ∷ 0 ∷ 0 ∷ 0 ∷ 1 ∷ 0 ∷ 2 ∷ 0 ∷ 1 ∷ 0 ∷ 0 ∷ 0 ∷ 0 ∷ 0 ∷ 0 ∷ 0 ∷ 0 ∷ 0 ∷ 0 ∷ 0 ∷ 0 ∷ 0 ∷ 0 ∷ 0 ∷ 1 ∷ 0 ∷ 3 ∷ 0 ∷ 1 ∷ 0 ∷ 1 ∷ 0 ∷ 0 ∷ 0 ∷ 0 ∷ 0 ∷ 0 ∷ 0 ∷ 0 ∷ 0 ∷ 0 ∷ 0 ∷ 0 ∷ 0 ∷ 0 ∷ 0 ∷ 2 ∷ 0 ∷ 5 ∷ 0 ∷ 0 ∷ 0 ∷ 0 ∷ 0 ∷ 3 ∷ 0 ∷ 5 ∷ 0 ∷ 0 ∷ 0 ∷ 97 ∷ 98 ∷ 99 ∷ 100 ∷ 101 ∷ 102 ∷ 97 ∷ 98 ∷ 99 ∷ []);
      text = (97 ∷ 98 ∷ 99 ∷ 113 ∷ []);
      operations = 50;
      names = 10;
      modules = 0;
      host = (listed ((entry.Value 6) ∷ []));
      first = [];
      second = [];
      opening = lend 128 16 64;
      calls = ((lend 128 16 64, run false) ∷ (lend 128 16 64, run false) ∷ []);
      check = (passes (Some 5));
      answers = ((ran (told 25 (code 1) 3 5) 5 [] []) ∷ (ran (told 25 (code 1) 2 5) 3 [] []) ∷ []);
    }
    ∷  -- list-exits
    record {
      image = (82 ∷ 72 ∷ 83 ∷ 1 ∷ 0 ∷ 0 ∷ 1 ∷ 0 ∷ 1 ∷ 0 ∷ 1 ∷ 0 ∷ 9 ∷ 0 ∷ 0 ∷ 0 ∷ 1 ∷ 0 ∷ 1 ∷ 0 ∷ 1 ∷ 0 ∷ 1 ∷ 0 ∷ 0 ∷ 0 ∷ 0 ∷ 0 ∷ 0 ∷ 0 ∷ 0 ∷ 0 ∷ 0 ∷ 0 ∷ 0 ∷ 0 ∷ 0 ∷ 0 ∷ 0 ∷ 0 ∷ 1 ∷ 0 ∷ 5 ∷ 0 ∷ 0 ∷ 0 ∷ 97 ∷ 98 ∷ 99 ∷ 100 ∷ 101 ∷ 102 ∷ 97 ∷ 98 ∷ 99 ∷ []);
      text = (97 ∷ 98 ∷ 99 ∷ 113 ∷ []);
      operations = 50;
      names = 10;
      modules = 0;
      host = (listed ((entry.Exit 2) ∷ (entry.Exit 1) ∷ []));
      first = [];
      second = [];
      opening = lend 128 16 64;
      calls = ((lend 128 16 64, run false) ∷ (lend 128 16 64, run true) ∷ []);
      check = (passes (Some 2));
      answers = ((ran (told 26 (value (v.Truth true)) 1 5) 2 [] []) ∷ (ran (told 0 (value (v.Truth false)) 0 0) 2 [] []) ∷ []);
    }
    ∷  -- list-host-denies-a-present-name
    record {
      image = (82 ∷ 72 ∷ 83 ∷ 1 ∷ 0 ∷ 0 ∷ 1 ∷ 0 ∷ 2 ∷ 0 ∷ 2 ∷ 0 ∷ 9 ∷ 0 ∷ 0 ∷ 0 ∷ 2 ∷ 0 ∷ 4 ∷ 0 ∷ 1 ∷ 0 ∷ 1 ∷ 0 ∷ 0 ∷ 0 ∷ 0 ∷ 0 ∷ 0 ∷ 0 ∷ 0 ∷ 0 ∷ 1 ∷ 0 ∷ 0 ∷ 0 ∷ 0 ∷ 0 ∷ 4 ∷ 0 ∷ 2 ∷ 0 ∷ 1 ∷ 0 ∷ 1 ∷ 0 ∷ 0 ∷ 0 ∷ 0 ∷ 0 ∷ 0 ∷ 0 ∷ 1 ∷ 0 ∷ 0 ∷ 0 ∷ 0 ∷ 0 ∷ 0 ∷ 0 ∷ 1 ∷ 0 ∷ 5 ∷ 0 ∷ 0 ∷ 0 ∷ 0 ∷ 0 ∷ 2 ∷ 0 ∷ 5 ∷ 0 ∷ 0 ∷ 0 ∷ 97 ∷ 98 ∷ 99 ∷ 100 ∷ 101 ∷ 102 ∷ 97 ∷ 98 ∷ 99 ∷ []);
      text = (97 ∷ 98 ∷ 99 ∷ 113 ∷ []);
      operations = 50;
      names = 10;
      modules = 0;
      host = (listed ((entry.Value 6) ∷ (entry.Value 7) ∷ []));
      first = [];
      second = [];
      opening = lend 128 16 64;
      calls = ((lend 128 16 64, run false) ∷ []);
      check = (passes (Some 4));
      answers = ((ran (told 13 (name (place Rule 0 1)) 2 1) 3 ((variable (place Rule 0 1) ReadWrite (v.Number (pos 3))) ∷ []) []) ∷ []);
    }
    ∷  -- condition-without-truth
    record {
      image = (82 ∷ 72 ∷ 83 ∷ 1 ∷ 0 ∷ 0 ∷ 2 ∷ 0 ∷ 2 ∷ 0 ∷ 1 ∷ 0 ∷ 9 ∷ 0 ∷ 0 ∷ 0 ∷ 1 ∷ 0 ∷ 1 ∷ 0 ∷ 1 ∷ 0 ∷ 5 ∷ 0 ∷ 1 ∷ 0 ∷ 1 ∷ 0 ∷ 0 ∷ 0 ∷ 1 ∷ 0 ∷ 255 ∷ 255 ∷ 0 ∷ 0 ∷ 0 ∷ 0 ∷ 0 ∷ 0 ∷ 0 ∷ 0 ∷ 0 ∷ 0 ∷ 2 ∷ 0 ∷ 1 ∷ 0 ∷ 0 ∷ 0 ∷ 0 ∷ 0 ∷ 0 ∷ 0 ∷ 0 ∷ 0 ∷ 0 ∷ 0 ∷ 0 ∷ 0 ∷ 0 ∷ 0 ∷ 0 ∷ 0 ∷ 1 ∷ 0 ∷ 5 ∷ 0 ∷ 0 ∷ 0 ∷ 97 ∷ 98 ∷ 99 ∷ 100 ∷ 101 ∷ 102 ∷ 97 ∷ 98 ∷ 99 ∷ []);
      text = (97 ∷ 98 ∷ 99 ∷ 113 ∷ []);
      operations = 50;
      names = 10;
      modules = 0;
      host = (listed ((entry.Value 6) ∷ []));
      first = [];
      second = [];
      opening = lend 128 16 64;
      calls = ((lend 128 16 64, run false) ∷ []);
      check = (passes (Some 3));
      answers = ((ran (told 15 nothing 1 5) 2 [] []) ∷ []);
    }
    ∷  -- if-by-a-number
    record {
      image = (82 ∷ 72 ∷ 83 ∷ 1 ∷ 0 ∷ 0 ∷ 2 ∷ 0 ∷ 2 ∷ 0 ∷ 1 ∷ 0 ∷ 9 ∷ 0 ∷ 0 ∷ 0 ∷ 1 ∷ 0 ∷ 1 ∷ 0 ∷ 1 ∷ 0 ∷ 5 ∷ 0 ∷ 1 ∷ 0 ∷ 1 ∷ 0 ∷ 0 ∷ 0 ∷ 1 ∷ 0 ∷ 255 ∷ 255 ∷ 0 ∷ 0 ∷ 0 ∷ 0 ∷ 0 ∷ 0 ∷ 0 ∷ 0 ∷ 0 ∷ 0 ∷ 2 ∷ 0 ∷ 1 ∷ 0 ∷ 0 ∷ 0 ∷ 0 ∷ 0 ∷ 0 ∷ 0 ∷ 0 ∷ 0 ∷ 0 ∷ 0 ∷ 0 ∷ 0 ∷ 0 ∷ 0 ∷ 0 ∷ 0 ∷ 1 ∷ 0 ∷ 5 ∷ 0 ∷ 0 ∷ 0 ∷ 97 ∷ 98 ∷ 99 ∷ 100 ∷ 101 ∷ 102 ∷ 97 ∷ 98 ∷ 99 ∷ []);
      text = (97 ∷ 98 ∷ 99 ∷ 113 ∷ []);
      operations = 50;
      names = 10;
      modules = 0;
      host = (scripted ((evaluation None None (eval.Value (v.Number (pos 3)))) ∷ []) []);
      first = [];
      second = [];
      opening = lend 128 16 64;
      calls = ((lend 128 16 64, run false) ∷ []);
      check = (passes (Some 3));
      answers = ((ran (told 15 nothing 1 5) 2 [] []) ∷ []);
    }
    ∷  -- if-without-else
    record {
      image = (82 ∷ 72 ∷ 83 ∷ 1 ∷ 0 ∷ 0 ∷ 2 ∷ 0 ∷ 2 ∷ 0 ∷ 1 ∷ 0 ∷ 9 ∷ 0 ∷ 0 ∷ 0 ∷ 1 ∷ 0 ∷ 1 ∷ 0 ∷ 1 ∷ 0 ∷ 5 ∷ 0 ∷ 1 ∷ 0 ∷ 1 ∷ 0 ∷ 0 ∷ 0 ∷ 1 ∷ 0 ∷ 255 ∷ 255 ∷ 0 ∷ 0 ∷ 0 ∷ 0 ∷ 0 ∷ 0 ∷ 0 ∷ 0 ∷ 0 ∷ 0 ∷ 2 ∷ 0 ∷ 1 ∷ 0 ∷ 0 ∷ 0 ∷ 0 ∷ 0 ∷ 0 ∷ 0 ∷ 0 ∷ 0 ∷ 0 ∷ 0 ∷ 0 ∷ 0 ∷ 0 ∷ 0 ∷ 2 ∷ 0 ∷ 1 ∷ 0 ∷ 5 ∷ 0 ∷ 0 ∷ 0 ∷ 97 ∷ 98 ∷ 99 ∷ 100 ∷ 101 ∷ 102 ∷ 97 ∷ 98 ∷ 99 ∷ []);
      text = (97 ∷ 98 ∷ 99 ∷ 113 ∷ []);
      operations = 50;
      names = 10;
      modules = 0;
      host = (site []);
      first = [];
      second = [];
      opening = lend 128 16 64;
      calls = ((lend 128 16 64, run false) ∷ []);
      check = (passes (Some 3));
      answers = ((ran (told 0 (value v.Unit) 0 0) 2 [] []) ∷ []);
    }
    ∷  -- if-value
    record {
      image = (82 ∷ 72 ∷ 83 ∷ 1 ∷ 0 ∷ 0 ∷ 2 ∷ 0 ∷ 2 ∷ 0 ∷ 2 ∷ 0 ∷ 9 ∷ 0 ∷ 0 ∷ 0 ∷ 1 ∷ 0 ∷ 1 ∷ 0 ∷ 1 ∷ 0 ∷ 5 ∷ 0 ∷ 1 ∷ 0 ∷ 1 ∷ 0 ∷ 0 ∷ 0 ∷ 255 ∷ 255 ∷ 1 ∷ 0 ∷ 0 ∷ 0 ∷ 0 ∷ 0 ∷ 0 ∷ 0 ∷ 0 ∷ 0 ∷ 1 ∷ 0 ∷ 2 ∷ 0 ∷ 1 ∷ 0 ∷ 1 ∷ 0 ∷ 0 ∷ 0 ∷ 0 ∷ 0 ∷ 0 ∷ 0 ∷ 0 ∷ 0 ∷ 0 ∷ 0 ∷ 0 ∷ 0 ∷ 2 ∷ 0 ∷ 1 ∷ 0 ∷ 5 ∷ 0 ∷ 0 ∷ 0 ∷ 3 ∷ 0 ∷ 2 ∷ 0 ∷ 5 ∷ 0 ∷ 0 ∷ 0 ∷ 97 ∷ 98 ∷ 99 ∷ 100 ∷ 101 ∷ 102 ∷ 97 ∷ 98 ∷ 99 ∷ []);
      text = (97 ∷ 98 ∷ 99 ∷ 113 ∷ []);
      operations = 50;
      names = 10;
      modules = 0;
      host = (site []);
      first = [];
      second = [];
      opening = lend 128 16 64;
      calls = ((lend 128 16 64, run false) ∷ []);
      check = (passes (Some 4));
      answers = ((ran (told 0 (value (v.Truth true)) 0 0) 4 [] []) ∷ []);
    }
    ∷  -- names-of-block-zero-stay-after-a-fault
    record {
      image = (82 ∷ 72 ∷ 83 ∷ 1 ∷ 0 ∷ 0 ∷ 2 ∷ 0 ∷ 4 ∷ 0 ∷ 2 ∷ 0 ∷ 9 ∷ 0 ∷ 0 ∷ 0 ∷ 2 ∷ 0 ∷ 2 ∷ 0 ∷ 2 ∷ 0 ∷ 4 ∷ 0 ∷ 1 ∷ 0 ∷ 1 ∷ 0 ∷ 0 ∷ 0 ∷ 0 ∷ 0 ∷ 0 ∷ 0 ∷ 0 ∷ 0 ∷ 1 ∷ 0 ∷ 0 ∷ 0 ∷ 0 ∷ 0 ∷ 2 ∷ 0 ∷ 2 ∷ 0 ∷ 1 ∷ 0 ∷ 0 ∷ 0 ∷ 1 ∷ 0 ∷ 0 ∷ 0 ∷ 0 ∷ 0 ∷ 0 ∷ 0 ∷ 0 ∷ 0 ∷ 0 ∷ 0 ∷ 4 ∷ 0 ∷ 3 ∷ 0 ∷ 1 ∷ 0 ∷ 1 ∷ 0 ∷ 0 ∷ 0 ∷ 0 ∷ 0 ∷ 1 ∷ 0 ∷ 1 ∷ 0 ∷ 0 ∷ 0 ∷ 0 ∷ 0 ∷ 12 ∷ 8 ∷ 4 ∷ 0 ∷ 1 ∷ 0 ∷ 255 ∷ 255 ∷ 0 ∷ 0 ∷ 0 ∷ 0 ∷ 0 ∷ 0 ∷ 0 ∷ 0 ∷ 0 ∷ 0 ∷ 0 ∷ 0 ∷ 0 ∷ 0 ∷ 1 ∷ 0 ∷ 5 ∷ 0 ∷ 0 ∷ 0 ∷ 0 ∷ 0 ∷ 3 ∷ 0 ∷ 5 ∷ 0 ∷ 0 ∷ 0 ∷ 97 ∷ 98 ∷ 99 ∷ 100 ∷ 101 ∷ 102 ∷ 97 ∷ 98 ∷ 99 ∷ []);
      text = (97 ∷ 98 ∷ 99 ∷ 113 ∷ []);
      operations = 50;
      names = 10;
      modules = 0;
      host = (scripted [] []);
      first = [];
      second = [];
      opening = lend 128 16 64;
      calls = ((lend 128 16 64, run false) ∷ []);
      check = (passes (Some 6));
      answers = ((ran (told 24 (value v.Unit) 4 1) 6 ((variable (place Rule 0 1) ReadWrite v.Unit) ∷ []) []) ∷ []);
    }
    ∷  -- site-code-past-the-table
    record {
      image = (82 ∷ 72 ∷ 83 ∷ 1 ∷ 0 ∷ 0 ∷ 1 ∷ 0 ∷ 1 ∷ 0 ∷ 1 ∷ 0 ∷ 9 ∷ 0 ∷ 0 ∷ 0 ∷ 1 ∷ 0 ∷ 1 ∷ 0 ∷ 1 ∷ 0 ∷ 1 ∷ 0 ∷ 0 ∷ 0 ∷ 0 ∷ 0 ∷ 0 ∷ 0 ∷ 0 ∷ 0 ∷ 0 ∷ 0 ∷ 0 ∷ 0 ∷ 0 ∷ 0 ∷ 0 ∷ 0 ∷ 1 ∷ 0 ∷ 5 ∷ 0 ∷ 1 ∷ 0 ∷ 97 ∷ 98 ∷ 99 ∷ 100 ∷ 101 ∷ 102 ∷ 97 ∷ 98 ∷ 99 ∷ []);
      text = (97 ∷ 98 ∷ 99 ∷ 113 ∷ []);
      operations = 50;
      names = 10;
      modules = 0;
      host = (site ((Operand (Constant w.Unit)) ∷ []));
      first = [];
      second = [];
      opening = lend 128 16 64;
      calls = ((lend 128 16 64, run false) ∷ []);
      check = (passes (Some 2));
      answers = ((ran (told 25 (code 4) 1 5) 2 [] []) ∷ []);
    }
    ∷  -- site-unknown-variable-before-wrong-kind
    record {
      image = (82 ∷ 72 ∷ 83 ∷ 1 ∷ 0 ∷ 0 ∷ 1 ∷ 0 ∷ 1 ∷ 0 ∷ 1 ∷ 0 ∷ 9 ∷ 0 ∷ 0 ∷ 0 ∷ 1 ∷ 0 ∷ 1 ∷ 0 ∷ 1 ∷ 0 ∷ 1 ∷ 0 ∷ 0 ∷ 0 ∷ 0 ∷ 0 ∷ 0 ∷ 0 ∷ 0 ∷ 0 ∷ 0 ∷ 0 ∷ 0 ∷ 0 ∷ 0 ∷ 0 ∷ 0 ∷ 0 ∷ 1 ∷ 0 ∷ 5 ∷ 0 ∷ 0 ∷ 0 ∷ 97 ∷ 98 ∷ 99 ∷ 100 ∷ 101 ∷ 102 ∷ 97 ∷ 98 ∷ 99 ∷ []);
      text = (97 ∷ 98 ∷ 99 ∷ 113 ∷ []);
      operations = 50;
      names = 10;
      modules = 0;
      host = (site ((Binary Add (Constant (w.Truth true)) (Variable (place Rule 0 1))) ∷ []));
      first = [];
      second = [];
      opening = lend 128 16 64;
      calls = ((lend 128 16 64, run false) ∷ []);
      check = (passes (Some 2));
      answers = ((ran (told 25 (code 2) 1 5) 2 [] []) ∷ []);
    }
    ∷  -- site-equal-of-two-kinds
    record {
      image = (82 ∷ 72 ∷ 83 ∷ 1 ∷ 0 ∷ 0 ∷ 1 ∷ 0 ∷ 1 ∷ 0 ∷ 1 ∷ 0 ∷ 9 ∷ 0 ∷ 0 ∷ 0 ∷ 1 ∷ 0 ∷ 1 ∷ 0 ∷ 1 ∷ 0 ∷ 1 ∷ 0 ∷ 0 ∷ 0 ∷ 0 ∷ 0 ∷ 0 ∷ 0 ∷ 0 ∷ 0 ∷ 0 ∷ 0 ∷ 0 ∷ 0 ∷ 0 ∷ 0 ∷ 0 ∷ 0 ∷ 1 ∷ 0 ∷ 5 ∷ 0 ∷ 0 ∷ 0 ∷ 97 ∷ 98 ∷ 99 ∷ 100 ∷ 101 ∷ 102 ∷ 97 ∷ 98 ∷ 99 ∷ []);
      text = (97 ∷ 98 ∷ 99 ∷ 113 ∷ []);
      operations = 50;
      names = 10;
      modules = 0;
      host = (site ((Binary Equal (Constant w.Unit) (Constant (w.Truth false))) ∷ []));
      first = [];
      second = [];
      opening = lend 128 16 64;
      calls = ((lend 128 16 64, run false) ∷ []);
      check = (passes (Some 2));
      answers = ((ran (told 25 (code 3) 1 5) 2 [] []) ∷ []);
    }
    ∷  -- site-equal-of-ranges
    record {
      image = (82 ∷ 72 ∷ 83 ∷ 1 ∷ 0 ∷ 0 ∷ 1 ∷ 0 ∷ 1 ∷ 0 ∷ 1 ∷ 0 ∷ 9 ∷ 0 ∷ 0 ∷ 0 ∷ 1 ∷ 0 ∷ 1 ∷ 0 ∷ 1 ∷ 0 ∷ 1 ∷ 0 ∷ 0 ∷ 0 ∷ 0 ∷ 0 ∷ 0 ∷ 0 ∷ 0 ∷ 0 ∷ 0 ∷ 0 ∷ 0 ∷ 0 ∷ 0 ∷ 0 ∷ 0 ∷ 0 ∷ 1 ∷ 0 ∷ 5 ∷ 0 ∷ 0 ∷ 0 ∷ 97 ∷ 98 ∷ 99 ∷ 100 ∷ 101 ∷ 102 ∷ 97 ∷ 98 ∷ 99 ∷ []);
      text = (97 ∷ 98 ∷ 99 ∷ 113 ∷ []);
      operations = 50;
      names = 10;
      modules = 0;
      host = (site ((Binary Equal (Constant (w.Range (pos 3) (pos 1))) (Constant (w.Range (pos 5) (pos 2)))) ∷ []));
      first = [];
      second = [];
      opening = lend 128 16 64;
      calls = ((lend 128 16 64, run false) ∷ []);
      check = (passes (Some 2));
      answers = ((ran (told 0 (value (v.Truth false)) 0 0) 2 [] []) ∷ []);
    }
    ∷  -- put-read-rewind-run
    record {
      image = (82 ∷ 72 ∷ 83 ∷ 1 ∷ 0 ∷ 0 ∷ 1 ∷ 0 ∷ 1 ∷ 0 ∷ 1 ∷ 0 ∷ 9 ∷ 0 ∷ 0 ∷ 0 ∷ 1 ∷ 0 ∷ 4 ∷ 0 ∷ 1 ∷ 0 ∷ 1 ∷ 0 ∷ 0 ∷ 0 ∷ 0 ∷ 0 ∷ 0 ∷ 0 ∷ 0 ∷ 0 ∷ 1 ∷ 0 ∷ 0 ∷ 0 ∷ 0 ∷ 0 ∷ 0 ∷ 0 ∷ 1 ∷ 0 ∷ 5 ∷ 0 ∷ 0 ∷ 0 ∷ 97 ∷ 98 ∷ 99 ∷ 100 ∷ 101 ∷ 102 ∷ 97 ∷ 98 ∷ 99 ∷ []);
      text = (97 ∷ 98 ∷ 99 ∷ 113 ∷ []);
      operations = 50;
      names = 3;
      modules = 0;
      host = (site ((Operand (Constant (w.Number (pos 5)))) ∷ []));
      first = [];
      second = [];
      opening = lend 128 16 64;
      calls = ((lend 128 16 64, put 1 1 (v.Truth true)) ∷ (lend 128 16 64, run false) ∷ (lend 128 16 64, read 0 1) ∷ (lend 128 16 64, read 1 1) ∷ (lend 128 16 64, read 2 1) ∷ (lend 128 16 64, run false) ∷ (lend 128 16 64, run false) ∷ (lend 128 16 64, rewind 1) ∷ (lend 128 16 64, read 0 1) ∷ (lend 128 16 64, rewind 9) ∷ (lend 128 16 64, run false) ∷ []);
      check = (passes (Some 2));
      answers = (made ∷ (ran (told 0 (value v.Unit) 0 0) 2 ((variable (place Site 1 1) ReadWrite (v.Truth true)) ∷ (variable (place Rule 0 1) ReadWrite (v.Number (pos 5))) ∷ []) []) ∷ (got (Some (v.Number (pos 5)))) ∷ (got (Some (v.Truth true))) ∷ (got None) ∷ (ran (told 0 (value v.Unit) 0 0) 2 ((variable (place Site 1 1) ReadWrite (v.Truth true)) ∷ (variable (place Rule 0 1) ReadWrite (v.Number (pos 5))) ∷ (variable (place Rule 0 1) ReadWrite (v.Number (pos 5))) ∷ []) []) ∷ (ran (told 14 nothing 1 1) 1 ((variable (place Site 1 1) ReadWrite (v.Truth true)) ∷ (variable (place Rule 0 1) ReadWrite (v.Number (pos 5))) ∷ (variable (place Rule 0 1) ReadWrite (v.Number (pos 5))) ∷ []) []) ∷ made ∷ (got None) ∷ made ∷ (ran (told 0 (value v.Unit) 0 0) 2 ((variable (place Site 1 1) ReadWrite (v.Truth true)) ∷ (variable (place Rule 0 1) ReadWrite (v.Number (pos 5))) ∷ []) []) ∷ []);
    }
    ∷  -- put-refused
    record {
      image = (82 ∷ 72 ∷ 83 ∷ 1 ∷ 0 ∷ 0 ∷ 1 ∷ 0 ∷ 0 ∷ 0 ∷ 0 ∷ 0 ∷ 9 ∷ 0 ∷ 0 ∷ 0 ∷ 0 ∷ 0 ∷ 97 ∷ 98 ∷ 99 ∷ 100 ∷ 101 ∷ 102 ∷ 97 ∷ 98 ∷ 99 ∷ []);
      text = (97 ∷ 98 ∷ 99 ∷ 113 ∷ []);
      operations = 50;
      names = 1;
      modules = 0;
      host = (site []);
      first = [];
      second = [];
      opening = lend 128 16 64;
      calls = ((lend 128 16 64, put 0 0 v.Unit) ∷ (lend 128 16 64, put 4 1 v.Unit) ∷ (lend 128 16 64, put 3 4294967295 v.Unit) ∷ (lend 128 16 64, put 3 1 v.Unit) ∷ (lend 128 16 64, put 3 1 v.Unit) ∷ (lend 128 16 64, read 4 0) ∷ (lend 128 16 64, read 0 5) ∷ []);
      check = (passes (Some 0));
      answers = ((refused 10) ∷ (refused 10) ∷ (refused 10) ∷ made ∷ (refused 11) ∷ (refused 10) ∷ (refused 10) ∷ []);
    }
    ∷  -- too-few-rows
    record {
      image = (82 ∷ 72 ∷ 83 ∷ 1 ∷ 0 ∷ 0 ∷ 1 ∷ 0 ∷ 1 ∷ 0 ∷ 0 ∷ 0 ∷ 9 ∷ 0 ∷ 0 ∷ 0 ∷ 1 ∷ 0 ∷ 0 ∷ 0 ∷ 1 ∷ 0 ∷ 1 ∷ 0 ∷ 0 ∷ 0 ∷ 0 ∷ 0 ∷ 0 ∷ 0 ∷ 0 ∷ 0 ∷ 0 ∷ 0 ∷ 0 ∷ 0 ∷ 0 ∷ 0 ∷ 97 ∷ 98 ∷ 99 ∷ 100 ∷ 101 ∷ 102 ∷ 97 ∷ 98 ∷ 99 ∷ []);
      text = (97 ∷ 98 ∷ 99 ∷ 113 ∷ []);
      operations = 50;
      names = 8;
      modules = 0;
      host = (site []);
      first = [];
      second = [];
      opening = lend 10 16 64;
      calls = ((lend 10 16 64, put 0 1 v.Unit) ∷ (lend 9 16 64, put 9 1 v.Unit) ∷ (lend 9 16 64, read 0 1) ∷ (lend 9 16 64, rewind 0) ∷ (lend 9 16 64, run false) ∷ (lend 10 15 64, run false) ∷ (lend 10 16 63, run false) ∷ (lend 10 16 64, run false) ∷ []);
      check = (passes (Some 1));
      answers = (made ∷ (refused 9) ∷ (refused 9) ∷ (refused 9) ∷ (refused 9) ∷ (refused 9) ∷ (refused 9) ∷ (ran (told 0 (value v.Unit) 0 0) 1 ((variable (place Site 0 1) ReadWrite v.Unit) ∷ []) []) ∷ []);
    }
    ∷  -- put-of-a-present-name
    record {
      image = (82 ∷ 72 ∷ 83 ∷ 1 ∷ 0 ∷ 0 ∷ 1 ∷ 0 ∷ 0 ∷ 0 ∷ 0 ∷ 0 ∷ 9 ∷ 0 ∷ 0 ∷ 0 ∷ 0 ∷ 0 ∷ 97 ∷ 98 ∷ 99 ∷ 100 ∷ 101 ∷ 102 ∷ 97 ∷ 98 ∷ 99 ∷ []);
      text = (97 ∷ 98 ∷ 99 ∷ 113 ∷ []);
      operations = 50;
      names = 8;
      modules = 0;
      host = (site []);
      first = [];
      second = [];
      opening = lend 128 16 64;
      calls = ((lend 128 16 64, put 0 1 (v.Number (pos 1))) ∷ (lend 128 16 64, put 0 1 (v.Number (pos 2))) ∷ (lend 128 16 64, read 0 1) ∷ (lend 128 16 64, run false) ∷ (lend 128 16 64, rewind 1) ∷ (lend 128 16 64, read 0 1) ∷ []);
      check = (passes (Some 0));
      answers = (made ∷ made ∷ (got (Some (v.Number (pos 2)))) ∷ (ran (told 0 (value v.Unit) 0 0) 0 ((variable (place Site 0 1) ReadWrite (v.Number (pos 1))) ∷ (variable (place Site 0 1) ReadWrite (v.Number (pos 2))) ∷ []) []) ∷ made ∷ (got (Some (v.Number (pos 1)))) ∷ []);
    }
    ∷  -- constant-can-be-read
    record {
      image = (82 ∷ 72 ∷ 83 ∷ 1 ∷ 0 ∷ 0 ∷ 1 ∷ 0 ∷ 1 ∷ 0 ∷ 1 ∷ 0 ∷ 9 ∷ 0 ∷ 0 ∷ 0 ∷ 1 ∷ 0 ∷ 4 ∷ 1 ∷ 1 ∷ 0 ∷ 1 ∷ 0 ∷ 0 ∷ 0 ∷ 0 ∷ 0 ∷ 0 ∷ 0 ∷ 1 ∷ 0 ∷ 1 ∷ 0 ∷ 0 ∷ 0 ∷ 0 ∷ 0 ∷ 0 ∷ 0 ∷ 1 ∷ 0 ∷ 5 ∷ 0 ∷ 0 ∷ 0 ∷ 97 ∷ 98 ∷ 99 ∷ 100 ∷ 101 ∷ 102 ∷ 97 ∷ 98 ∷ 99 ∷ []);
      text = (97 ∷ 98 ∷ 99 ∷ 113 ∷ []);
      operations = 50;
      names = 8;
      modules = 0;
      host = (site ((Operand (Constant (w.Number (pos 8)))) ∷ []));
      first = [];
      second = [];
      opening = lend 128 16 64;
      calls = ((lend 128 16 64, run false) ∷ (lend 128 16 64, read 1 1) ∷ []);
      check = (passes (Some 2));
      answers = ((ran (told 0 (value v.Unit) 0 0) 2 ((variable (place Rule 1 1) ConstantAccess (v.Number (pos 8))) ∷ []) []) ∷ (got (Some (v.Number (pos 8)))) ∷ []);
    }
    ∷  -- put-of-no-name-when-full
    record {
      image = (82 ∷ 72 ∷ 83 ∷ 1 ∷ 0 ∷ 0 ∷ 1 ∷ 0 ∷ 0 ∷ 0 ∷ 0 ∷ 0 ∷ 9 ∷ 0 ∷ 0 ∷ 0 ∷ 0 ∷ 0 ∷ 97 ∷ 98 ∷ 99 ∷ 100 ∷ 101 ∷ 102 ∷ 97 ∷ 98 ∷ 99 ∷ []);
      text = (97 ∷ 98 ∷ 99 ∷ 113 ∷ []);
      operations = 50;
      names = 1;
      modules = 0;
      host = (site []);
      first = [];
      second = [];
      opening = lend 128 16 64;
      calls = ((lend 128 16 64, put 0 1 v.Unit) ∷ (lend 128 16 64, put 0 0 v.Unit) ∷ (lend 128 16 64, put 0 1 v.Unit) ∷ []);
      check = (passes (Some 0));
      answers = (made ∷ (refused 10) ∷ (refused 11) ∷ []);
    }
    ∷  -- calls-with-too-few-import-rows
    record {
      image = (82 ∷ 72 ∷ 83 ∷ 1 ∷ 0 ∷ 0 ∷ 1 ∷ 0 ∷ 0 ∷ 0 ∷ 0 ∷ 0 ∷ 9 ∷ 0 ∷ 0 ∷ 0 ∷ 0 ∷ 0 ∷ 97 ∷ 98 ∷ 99 ∷ 100 ∷ 101 ∷ 102 ∷ 97 ∷ 98 ∷ 99 ∷ []);
      text = (97 ∷ 98 ∷ 99 ∷ 113 ∷ []);
      operations = 50;
      names = 8;
      modules = 0;
      host = (site []);
      first = [];
      second = [];
      opening = lend 10 16 64;
      calls = ((lend 10 16 64, put 0 1 (v.Number (pos 1))) ∷ (lend 10 15 64, put 0 1 (v.Number (pos 2))) ∷ (lend 10 15 64, read 0 1) ∷ (lend 10 15 64, rewind 0) ∷ (lend 10 16 64, read 0 1) ∷ []);
      check = (passes (Some 0));
      answers = (made ∷ (refused 9) ∷ (refused 9) ∷ (refused 9) ∷ (got (Some (v.Number (pos 1)))) ∷ []);
    }
    ∷  -- calls-with-too-few-working-rows
    record {
      image = (82 ∷ 72 ∷ 83 ∷ 1 ∷ 0 ∷ 0 ∷ 1 ∷ 0 ∷ 0 ∷ 0 ∷ 0 ∷ 0 ∷ 9 ∷ 0 ∷ 0 ∷ 0 ∷ 0 ∷ 0 ∷ 97 ∷ 98 ∷ 99 ∷ 100 ∷ 101 ∷ 102 ∷ 97 ∷ 98 ∷ 99 ∷ []);
      text = (97 ∷ 98 ∷ 99 ∷ 113 ∷ []);
      operations = 50;
      names = 8;
      modules = 0;
      host = (site []);
      first = [];
      second = [];
      opening = lend 10 16 64;
      calls = ((lend 10 16 64, put 0 1 (v.Number (pos 1))) ∷ (lend 10 16 63, put 0 1 (v.Number (pos 2))) ∷ (lend 10 16 63, read 0 1) ∷ (lend 10 16 63, rewind 0) ∷ (lend 10 16 64, read 0 1) ∷ []);
      check = (passes (Some 0));
      answers = (made ∷ (refused 9) ∷ (refused 9) ∷ (refused 9) ∷ (got (Some (v.Number (pos 1)))) ∷ []);
    }
    ∷  -- open-without-operations
    record {
      image = (82 ∷ 72 ∷ 83 ∷ 1 ∷ 0 ∷ 0 ∷ 1 ∷ 0 ∷ 0 ∷ 0 ∷ 0 ∷ 0 ∷ 9 ∷ 0 ∷ 0 ∷ 0 ∷ 0 ∷ 0 ∷ 97 ∷ 98 ∷ 99 ∷ 100 ∷ 101 ∷ 102 ∷ 97 ∷ 98 ∷ 99 ∷ []);
      text = (97 ∷ 98 ∷ 99 ∷ 113 ∷ []);
      operations = 0;
      names = 8;
      modules = 0;
      host = (site []);
      first = [];
      second = [];
      opening = lend 128 16 64;
      calls = ((lend 128 16 64, run false) ∷ []);
      check = (passes (Some 0));
      answers = ((refused 8) ∷ []);
    }
    ∷  -- open-with-too-many-operations
    record {
      image = (82 ∷ 72 ∷ 83 ∷ 1 ∷ 0 ∷ 0 ∷ 1 ∷ 0 ∷ 0 ∷ 0 ∷ 0 ∷ 0 ∷ 9 ∷ 0 ∷ 0 ∷ 0 ∷ 0 ∷ 0 ∷ 97 ∷ 98 ∷ 99 ∷ 100 ∷ 101 ∷ 102 ∷ 97 ∷ 98 ∷ 99 ∷ []);
      text = (97 ∷ 98 ∷ 99 ∷ 113 ∷ []);
      operations = 1000000001;
      names = 8;
      modules = 0;
      host = (site []);
      first = [];
      second = [];
      opening = lend 128 16 64;
      calls = ((lend 128 16 64, run false) ∷ []);
      check = (passes (Some 0));
      answers = ((refused 8) ∷ []);
    }
    ∷  -- open-without-names
    record {
      image = (82 ∷ 72 ∷ 83 ∷ 1 ∷ 0 ∷ 0 ∷ 1 ∷ 0 ∷ 0 ∷ 0 ∷ 0 ∷ 0 ∷ 9 ∷ 0 ∷ 0 ∷ 0 ∷ 0 ∷ 0 ∷ 97 ∷ 98 ∷ 99 ∷ 100 ∷ 101 ∷ 102 ∷ 97 ∷ 98 ∷ 99 ∷ []);
      text = (97 ∷ 98 ∷ 99 ∷ 113 ∷ []);
      operations = 1;
      names = 0;
      modules = 0;
      host = (site []);
      first = [];
      second = [];
      opening = lend 128 16 64;
      calls = ((lend 128 16 64, run false) ∷ []);
      check = (passes (Some 0));
      answers = ((refused 8) ∷ []);
    }
    ∷  -- open-with-a-bad-limit-and-too-few-rows
    record {
      image = (82 ∷ 72 ∷ 83 ∷ 1 ∷ 0 ∷ 0 ∷ 1 ∷ 0 ∷ 0 ∷ 0 ∷ 0 ∷ 0 ∷ 9 ∷ 0 ∷ 0 ∷ 0 ∷ 0 ∷ 0 ∷ 97 ∷ 98 ∷ 99 ∷ 100 ∷ 101 ∷ 102 ∷ 97 ∷ 98 ∷ 99 ∷ []);
      text = (97 ∷ 98 ∷ 99 ∷ 113 ∷ []);
      operations = 0;
      names = 8;
      modules = 0;
      host = (site []);
      first = [];
      second = [];
      opening = lend 9 16 64;
      calls = [];
      check = (passes (Some 0));
      answers = ((refused 8) ∷ []);
    }
    ∷  -- open-with-too-many-names
    record {
      image = (82 ∷ 72 ∷ 83 ∷ 1 ∷ 0 ∷ 0 ∷ 1 ∷ 0 ∷ 0 ∷ 0 ∷ 0 ∷ 0 ∷ 9 ∷ 0 ∷ 0 ∷ 0 ∷ 0 ∷ 0 ∷ 97 ∷ 98 ∷ 99 ∷ 100 ∷ 101 ∷ 102 ∷ 97 ∷ 98 ∷ 99 ∷ []);
      text = (97 ∷ 98 ∷ 99 ∷ 113 ∷ []);
      operations = 1;
      names = 127;
      modules = 0;
      host = (site []);
      first = [];
      second = [];
      opening = lend 128 16 64;
      calls = ((lend 128 16 64, run false) ∷ []);
      check = (passes (Some 0));
      answers = ((refused 8) ∷ []);
    }
    ∷  -- open-with-too-many-modules
    record {
      image = (82 ∷ 72 ∷ 83 ∷ 1 ∷ 0 ∷ 0 ∷ 1 ∷ 0 ∷ 0 ∷ 0 ∷ 0 ∷ 0 ∷ 9 ∷ 0 ∷ 0 ∷ 0 ∷ 0 ∷ 0 ∷ 97 ∷ 98 ∷ 99 ∷ 100 ∷ 101 ∷ 102 ∷ 97 ∷ 98 ∷ 99 ∷ []);
      text = (97 ∷ 98 ∷ 99 ∷ 113 ∷ []);
      operations = 1;
      names = 126;
      modules = 17;
      host = (site []);
      first = [];
      second = [];
      opening = lend 128 16 64;
      calls = ((lend 128 16 64, run false) ∷ []);
      check = (passes (Some 0));
      answers = ((refused 8) ∷ []);
    }
    ∷  -- open-with-too-few-rows
    record {
      image = (82 ∷ 72 ∷ 83 ∷ 1 ∷ 0 ∷ 0 ∷ 1 ∷ 0 ∷ 0 ∷ 0 ∷ 0 ∷ 0 ∷ 9 ∷ 0 ∷ 0 ∷ 0 ∷ 0 ∷ 0 ∷ 97 ∷ 98 ∷ 99 ∷ 100 ∷ 101 ∷ 102 ∷ 97 ∷ 98 ∷ 99 ∷ []);
      text = (97 ∷ 98 ∷ 99 ∷ 113 ∷ []);
      operations = 1;
      names = 126;
      modules = 16;
      host = (site []);
      first = [];
      second = [];
      opening = lend 127 16 64;
      calls = [];
      check = (passes (Some 0));
      answers = ((refused 9) ∷ []);
    }
    ∷  -- open-with-too-few-import-rows
    record {
      image = (82 ∷ 72 ∷ 83 ∷ 1 ∷ 0 ∷ 0 ∷ 1 ∷ 0 ∷ 0 ∷ 0 ∷ 0 ∷ 0 ∷ 9 ∷ 0 ∷ 0 ∷ 0 ∷ 0 ∷ 0 ∷ 97 ∷ 98 ∷ 99 ∷ 100 ∷ 101 ∷ 102 ∷ 97 ∷ 98 ∷ 99 ∷ []);
      text = (97 ∷ 98 ∷ 99 ∷ 113 ∷ []);
      operations = 1;
      names = 8;
      modules = 0;
      host = (site []);
      first = [];
      second = [];
      opening = lend 10 15 64;
      calls = [];
      check = (passes (Some 0));
      answers = ((refused 9) ∷ []);
    }
    ∷  -- open-with-too-few-working-rows
    record {
      image = (82 ∷ 72 ∷ 83 ∷ 1 ∷ 0 ∷ 0 ∷ 1 ∷ 0 ∷ 0 ∷ 0 ∷ 0 ∷ 0 ∷ 9 ∷ 0 ∷ 0 ∷ 0 ∷ 0 ∷ 0 ∷ 97 ∷ 98 ∷ 99 ∷ 100 ∷ 101 ∷ 102 ∷ 97 ∷ 98 ∷ 99 ∷ []);
      text = (97 ∷ 98 ∷ 99 ∷ 113 ∷ []);
      operations = 1;
      names = 8;
      modules = 0;
      host = (site []);
      first = [];
      second = [];
      opening = lend 10 16 63;
      calls = [];
      check = (passes (Some 0));
      answers = ((refused 9) ∷ []);
    }
    ∷  -- open-with-the-largest-limits
    record {
      image = (82 ∷ 72 ∷ 83 ∷ 1 ∷ 0 ∷ 0 ∷ 1 ∷ 0 ∷ 1 ∷ 0 ∷ 0 ∷ 0 ∷ 9 ∷ 0 ∷ 0 ∷ 0 ∷ 1 ∷ 0 ∷ 0 ∷ 0 ∷ 1 ∷ 0 ∷ 1 ∷ 0 ∷ 0 ∷ 0 ∷ 0 ∷ 0 ∷ 0 ∷ 0 ∷ 0 ∷ 0 ∷ 0 ∷ 0 ∷ 0 ∷ 0 ∷ 0 ∷ 0 ∷ 97 ∷ 98 ∷ 99 ∷ 100 ∷ 101 ∷ 102 ∷ 97 ∷ 98 ∷ 99 ∷ []);
      text = (97 ∷ 98 ∷ 99 ∷ 113 ∷ []);
      operations = 1000000000;
      names = 126;
      modules = 16;
      host = (site []);
      first = [];
      second = [];
      opening = lend 128 16 64;
      calls = ((lend 128 16 64, run false) ∷ []);
      check = (passes (Some 1));
      answers = ((ran (told 0 (value v.Unit) 0 0) 1 [] []) ∷ []);
    }
    ∷  -- difference-index-beyond-names
    record {
      image = (82 ∷ 72 ∷ 83 ∷ 1 ∷ 0 ∷ 0 ∷ 1 ∷ 0 ∷ 1 ∷ 0 ∷ 1 ∷ 0 ∷ 9 ∷ 0 ∷ 0 ∷ 0 ∷ 1 ∷ 0 ∷ 4 ∷ 0 ∷ 1 ∷ 0 ∷ 1 ∷ 0 ∷ 0 ∷ 0 ∷ 0 ∷ 0 ∷ 0 ∷ 0 ∷ 0 ∷ 0 ∷ 1 ∷ 0 ∷ 1 ∷ 0 ∷ 0 ∷ 0 ∷ 1 ∷ 0 ∷ 1 ∷ 0 ∷ 5 ∷ 0 ∷ 0 ∷ 0 ∷ 97 ∷ 98 ∷ 99 ∷ 100 ∷ 101 ∷ 102 ∷ 97 ∷ 98 ∷ 99 ∷ []);
      text = (97 ∷ 98 ∷ 99 ∷ 113 ∷ []);
      operations = 9;
      names = 9;
      modules = 0;
      host = (site []);
      first = [];
      second = [];
      opening = lend 128 16 64;
      calls = ((lend 128 16 64, run false) ∷ []);
      check = (passes (Some 2));
      answers = ((ran (told 18 nothing 1 1) 2 [] []) ∷ []);
    }
    ∷  -- difference-index-kept-and-beyond-the-names
    record {
      image = (82 ∷ 72 ∷ 83 ∷ 1 ∷ 0 ∷ 0 ∷ 1 ∷ 0 ∷ 1 ∷ 0 ∷ 1 ∷ 0 ∷ 9 ∷ 0 ∷ 0 ∷ 0 ∷ 1 ∷ 0 ∷ 4 ∷ 0 ∷ 1 ∷ 0 ∷ 1 ∷ 0 ∷ 0 ∷ 0 ∷ 0 ∷ 0 ∷ 0 ∷ 0 ∷ 0 ∷ 0 ∷ 1 ∷ 0 ∷ 3 ∷ 0 ∷ 0 ∷ 0 ∷ 0 ∷ 0 ∷ 1 ∷ 0 ∷ 5 ∷ 0 ∷ 0 ∷ 0 ∷ 97 ∷ 98 ∷ 99 ∷ 100 ∷ 101 ∷ 102 ∷ 97 ∷ 98 ∷ 99 ∷ []);
      text = (97 ∷ 98 ∷ 99 ∷ 113 ∷ []);
      operations = 9;
      names = 9;
      modules = 0;
      host = (scripted ((evaluation (Some (Append (place Site 0 1) v.Unit)) None (eval.Value (v.Number (pos 1)))) ∷ []) []);
      first = [];
      second = [];
      opening = lend 128 16 64;
      calls = ((lend 128 16 64, run false) ∷ []);
      check = (passes (Some 2));
      answers = ((ran (told 0 (value v.Unit) 0 0) 2 ((variable (place Site 0 1) ReadWrite (v.Number (pos 1))) ∷ []) []) ∷ []);
    }
    ∷  -- difference-faulty-item-over-empty-body
    record {
      image = (82 ∷ 72 ∷ 83 ∷ 1 ∷ 0 ∷ 0 ∷ 1 ∷ 0 ∷ 1 ∷ 0 ∷ 1 ∷ 0 ∷ 9 ∷ 0 ∷ 0 ∷ 0 ∷ 1 ∷ 0 ∷ 9 ∷ 0 ∷ 1 ∷ 0 ∷ 1 ∷ 0 ∷ 0 ∷ 0 ∷ 255 ∷ 255 ∷ 0 ∷ 0 ∷ 0 ∷ 0 ∷ 1 ∷ 0 ∷ 0 ∷ 0 ∷ 0 ∷ 0 ∷ 0 ∷ 0 ∷ 1 ∷ 0 ∷ 5 ∷ 0 ∷ 0 ∷ 0 ∷ 97 ∷ 98 ∷ 99 ∷ 100 ∷ 101 ∷ 102 ∷ 97 ∷ 98 ∷ 99 ∷ []);
      text = (97 ∷ 98 ∷ 99 ∷ 113 ∷ []);
      operations = 9;
      names = 9;
      modules = 0;
      host = (scripted ((evaluation None None (eval.Value (v.Seq 101))) ∷ []) []);
      first = [];
      second = [];
      opening = lend 128 16 64;
      calls = ((lend 128 16 64, run false) ∷ []);
      check = (passes None);
      answers = ((ran (told 25 (code 61) 1 5) 2 [] []) ∷ []);
    }
    ∷  -- difference-faulty-item-over-empty-body-goes-on
    record {
      image = (82 ∷ 72 ∷ 83 ∷ 1 ∷ 0 ∷ 0 ∷ 1 ∷ 0 ∷ 1 ∷ 0 ∷ 1 ∷ 0 ∷ 9 ∷ 0 ∷ 0 ∷ 0 ∷ 1 ∷ 0 ∷ 9 ∷ 0 ∷ 1 ∷ 0 ∷ 1 ∷ 0 ∷ 0 ∷ 0 ∷ 255 ∷ 255 ∷ 0 ∷ 0 ∷ 0 ∷ 0 ∷ 1 ∷ 0 ∷ 0 ∷ 0 ∷ 0 ∷ 0 ∷ 0 ∷ 0 ∷ 1 ∷ 0 ∷ 5 ∷ 0 ∷ 0 ∷ 0 ∷ 97 ∷ 98 ∷ 99 ∷ 100 ∷ 101 ∷ 102 ∷ 97 ∷ 98 ∷ 99 ∷ []);
      text = (97 ∷ 98 ∷ 99 ∷ 113 ∷ []);
      operations = 9;
      names = 9;
      modules = 0;
      host = (scripted ((evaluation None None (eval.Value (v.Seq 313))) ∷ []) []);
      first = [];
      second = [];
      opening = lend 128 16 64;
      calls = ((lend 128 16 64, run false) ∷ []);
      check = (passes None);
      answers = ((ran (told 25 (code 63) 1 5) 3 [] []) ∷ []);
    }
    ∷  -- difference-index-kept-while-no-such-name
    record {
      image = (82 ∷ 72 ∷ 83 ∷ 1 ∷ 0 ∷ 0 ∷ 1 ∷ 0 ∷ 1 ∷ 0 ∷ 1 ∷ 0 ∷ 9 ∷ 0 ∷ 0 ∷ 0 ∷ 1 ∷ 0 ∷ 4 ∷ 0 ∷ 1 ∷ 0 ∷ 1 ∷ 0 ∷ 0 ∷ 0 ∷ 0 ∷ 0 ∷ 0 ∷ 0 ∷ 0 ∷ 0 ∷ 1 ∷ 0 ∷ 1 ∷ 0 ∷ 0 ∷ 0 ∷ 0 ∷ 0 ∷ 1 ∷ 0 ∷ 5 ∷ 0 ∷ 0 ∷ 0 ∷ 97 ∷ 98 ∷ 99 ∷ 100 ∷ 101 ∷ 102 ∷ 97 ∷ 98 ∷ 99 ∷ []);
      text = (97 ∷ 98 ∷ 99 ∷ 113 ∷ []);
      operations = 9;
      names = 9;
      modules = 0;
      host = (scripted ((evaluation (Some (Append (place Site 3 1) v.Unit)) None (eval.Value (v.Number (pos 1)))) ∷ []) []);
      first = [];
      second = [];
      opening = lend 128 16 64;
      calls = ((lend 128 16 64, run false) ∷ []);
      check = (passes (Some 2));
      answers = ((ran (told 17 (name (place Rule 0 1)) 1 1) 2 ((variable (place Site 3 1) ReadWrite v.Unit) ∷ []) []) ∷ []);
    }
    ∷  -- difference-variable-limit-not-repeated-at-for
    record {
      image = (82 ∷ 72 ∷ 83 ∷ 1 ∷ 0 ∷ 0 ∷ 1 ∷ 0 ∷ 1 ∷ 0 ∷ 1 ∷ 0 ∷ 9 ∷ 0 ∷ 0 ∷ 0 ∷ 1 ∷ 0 ∷ 9 ∷ 0 ∷ 1 ∷ 0 ∷ 1 ∷ 0 ∷ 0 ∷ 0 ∷ 255 ∷ 255 ∷ 0 ∷ 0 ∷ 0 ∷ 0 ∷ 1 ∷ 0 ∷ 0 ∷ 0 ∷ 0 ∷ 0 ∷ 0 ∷ 0 ∷ 1 ∷ 0 ∷ 5 ∷ 0 ∷ 0 ∷ 0 ∷ 97 ∷ 98 ∷ 99 ∷ 100 ∷ 101 ∷ 102 ∷ 97 ∷ 98 ∷ 99 ∷ []);
      text = (97 ∷ 98 ∷ 99 ∷ 113 ∷ []);
      operations = 9;
      names = 1;
      modules = 0;
      host = (scripted ((evaluation (Some (Append (place Site 3 1) v.Unit)) None (eval.Value (v.Range (pos 0) (pos 0)))) ∷ []) []);
      first = [];
      second = [];
      opening = lend 128 16 64;
      calls = ((lend 128 16 64, run false) ∷ []);
      check = (passes None);
      answers = ((ran (told 14 nothing 1 1) 2 ((variable (place Site 3 1) ReadWrite v.Unit) ∷ []) []) ∷ []);
    }
    ∷  -- difference-variable-limit-not-repeated-before-a-faulty-item
    record {
      image = (82 ∷ 72 ∷ 83 ∷ 1 ∷ 0 ∷ 0 ∷ 1 ∷ 0 ∷ 1 ∷ 0 ∷ 1 ∷ 0 ∷ 9 ∷ 0 ∷ 0 ∷ 0 ∷ 1 ∷ 0 ∷ 9 ∷ 0 ∷ 1 ∷ 0 ∷ 1 ∷ 0 ∷ 0 ∷ 0 ∷ 255 ∷ 255 ∷ 0 ∷ 0 ∷ 0 ∷ 0 ∷ 1 ∷ 0 ∷ 0 ∷ 0 ∷ 0 ∷ 0 ∷ 0 ∷ 0 ∷ 1 ∷ 0 ∷ 5 ∷ 0 ∷ 0 ∷ 0 ∷ 97 ∷ 98 ∷ 99 ∷ 100 ∷ 101 ∷ 102 ∷ 97 ∷ 98 ∷ 99 ∷ []);
      text = (97 ∷ 98 ∷ 99 ∷ 113 ∷ []);
      operations = 9;
      names = 1;
      modules = 0;
      host = (scripted ((evaluation (Some (Append (place Site 3 1) v.Unit)) None (eval.Value (v.Seq 101))) ∷ []) []);
      first = [];
      second = [];
      opening = lend 128 16 64;
      calls = ((lend 128 16 64, run false) ∷ []);
      check = (passes None);
      answers = ((ran (told 14 nothing 1 1) 2 ((variable (place Site 3 1) ReadWrite v.Unit) ∷ []) []) ∷ []);
    }
    ∷  -- difference-variable-limit-not-repeated-at-var
    record {
      image = (82 ∷ 72 ∷ 83 ∷ 1 ∷ 0 ∷ 0 ∷ 1 ∷ 0 ∷ 1 ∷ 0 ∷ 1 ∷ 0 ∷ 9 ∷ 0 ∷ 0 ∷ 0 ∷ 1 ∷ 0 ∷ 4 ∷ 0 ∷ 1 ∷ 0 ∷ 1 ∷ 0 ∷ 0 ∷ 0 ∷ 0 ∷ 0 ∷ 0 ∷ 0 ∷ 0 ∷ 0 ∷ 1 ∷ 0 ∷ 0 ∷ 0 ∷ 0 ∷ 0 ∷ 0 ∷ 0 ∷ 1 ∷ 0 ∷ 5 ∷ 0 ∷ 0 ∷ 0 ∷ 97 ∷ 98 ∷ 99 ∷ 100 ∷ 101 ∷ 102 ∷ 97 ∷ 98 ∷ 99 ∷ []);
      text = (97 ∷ 98 ∷ 99 ∷ 113 ∷ []);
      operations = 9;
      names = 1;
      modules = 0;
      host = (scripted ((evaluation (Some (Append (place Site 3 1) v.Unit)) None (eval.Value v.Unit)) ∷ []) []);
      first = [];
      second = [];
      opening = lend 128 16 64;
      calls = ((lend 128 16 64, run false) ∷ []);
      check = (passes (Some 2));
      answers = ((ran (told 14 nothing 1 1) 2 ((variable (place Site 3 1) ReadWrite v.Unit) ∷ []) []) ∷ []);
    }
    ∷  -- difference-index-kept-while-mark-is-on
    record {
      image = (82 ∷ 72 ∷ 83 ∷ 1 ∷ 0 ∷ 0 ∷ 1 ∷ 0 ∷ 1 ∷ 0 ∷ 1 ∷ 0 ∷ 9 ∷ 0 ∷ 0 ∷ 0 ∷ 1 ∷ 0 ∷ 4 ∷ 0 ∷ 1 ∷ 0 ∷ 1 ∷ 0 ∷ 0 ∷ 0 ∷ 0 ∷ 0 ∷ 0 ∷ 0 ∷ 0 ∷ 0 ∷ 1 ∷ 0 ∷ 1 ∷ 0 ∷ 0 ∷ 0 ∷ 0 ∷ 0 ∷ 1 ∷ 0 ∷ 5 ∷ 0 ∷ 0 ∷ 0 ∷ 97 ∷ 98 ∷ 99 ∷ 100 ∷ 101 ∷ 102 ∷ 97 ∷ 98 ∷ 99 ∷ []);
      text = (97 ∷ 98 ∷ 99 ∷ 113 ∷ []);
      operations = 9;
      names = 9;
      modules = 0;
      host = (scripted ((evaluation (Some (Append (place Site 3 1) v.Unit)) None (eval.Value (v.Number (pos 1)))) ∷ []) []);
      first = [];
      second = [];
      opening = lend 128 16 64;
      calls = ((lend 128 16 64, put 0 1 v.Unit) ∷ (lend 128 16 64, run false) ∷ []);
      check = (passes (Some 2));
      answers = (made ∷ (ran (told 0 (value v.Unit) 0 0) 2 ((variable (place Site 0 1) ReadWrite (v.Number (pos 1))) ∷ (variable (place Site 3 1) ReadWrite v.Unit) ∷ []) []) ∷ []);
    }
    ∷  -- difference-index-kept-while-mark-is-on-after-allow
    record {
      image = (82 ∷ 72 ∷ 83 ∷ 1 ∷ 0 ∷ 0 ∷ 1 ∷ 0 ∷ 1 ∷ 0 ∷ 1 ∷ 0 ∷ 9 ∷ 0 ∷ 0 ∷ 0 ∷ 1 ∷ 0 ∷ 4 ∷ 0 ∷ 1 ∷ 0 ∷ 1 ∷ 0 ∷ 0 ∷ 0 ∷ 0 ∷ 0 ∷ 0 ∷ 0 ∷ 0 ∷ 0 ∷ 1 ∷ 0 ∷ 1 ∷ 0 ∷ 0 ∷ 0 ∷ 0 ∷ 0 ∷ 1 ∷ 0 ∷ 5 ∷ 0 ∷ 0 ∷ 0 ∷ 97 ∷ 98 ∷ 99 ∷ 100 ∷ 101 ∷ 102 ∷ 97 ∷ 98 ∷ 99 ∷ []);
      text = (97 ∷ 98 ∷ 99 ∷ 113 ∷ []);
      operations = 9;
      names = 9;
      modules = 0;
      host = (scripted ((evaluation None None (eval.Value (v.Number (pos 1)))) ∷ []) ((declaration (Some (Append (place Site 3 1) v.Unit)) None allow.Yes) ∷ []));
      first = [];
      second = [];
      opening = lend 128 16 64;
      calls = ((lend 128 16 64, put 0 1 v.Unit) ∷ (lend 128 16 64, run false) ∷ []);
      check = (passes (Some 2));
      answers = (made ∷ (ran (told 0 (value v.Unit) 0 0) 2 ((variable (place Site 0 1) ReadWrite (v.Number (pos 1))) ∷ (variable (place Site 3 1) ReadWrite v.Unit) ∷ []) []) ∷ []);
    }
    ∷  -- difference-variable-limit-not-repeated-at-for-with-counter
    record {
      image = (82 ∷ 72 ∷ 83 ∷ 1 ∷ 0 ∷ 0 ∷ 2 ∷ 0 ∷ 2 ∷ 0 ∷ 2 ∷ 0 ∷ 9 ∷ 0 ∷ 0 ∷ 0 ∷ 1 ∷ 0 ∷ 1 ∷ 0 ∷ 1 ∷ 0 ∷ 9 ∷ 0 ∷ 1 ∷ 0 ∷ 1 ∷ 0 ∷ 0 ∷ 0 ∷ 1 ∷ 0 ∷ 0 ∷ 0 ∷ 0 ∷ 0 ∷ 1 ∷ 0 ∷ 1 ∷ 0 ∷ 1 ∷ 0 ∷ 1 ∷ 0 ∷ 2 ∷ 0 ∷ 1 ∷ 0 ∷ 1 ∷ 0 ∷ 0 ∷ 0 ∷ 0 ∷ 0 ∷ 0 ∷ 0 ∷ 0 ∷ 0 ∷ 0 ∷ 0 ∷ 0 ∷ 0 ∷ 0 ∷ 0 ∷ 1 ∷ 0 ∷ 5 ∷ 0 ∷ 0 ∷ 0 ∷ 0 ∷ 0 ∷ 2 ∷ 0 ∷ 5 ∷ 0 ∷ 0 ∷ 0 ∷ 97 ∷ 98 ∷ 99 ∷ 100 ∷ 101 ∷ 102 ∷ 97 ∷ 98 ∷ 99 ∷ []);
      text = (97 ∷ 98 ∷ 99 ∷ 113 ∷ []);
      operations = 9;
      names = 2;
      modules = 0;
      host = (scripted ((evaluation (Some (Append (place Site 3 1) v.Unit)) None (eval.Value (v.Range (pos 0) (pos 1)))) ∷ (evaluation None None (eval.Exit v.Unit)) ∷ []) []);
      first = [];
      second = [];
      opening = lend 128 16 64;
      calls = ((lend 128 16 64, run false) ∷ []);
      check = (passes None);
      answers = ((ran (told 14 nothing 1 1) 2 ((variable (place Site 3 1) ReadWrite v.Unit) ∷ []) []) ∷ []);
    }
    ∷  -- appended-name-without-text
    record {
      image = (82 ∷ 72 ∷ 83 ∷ 1 ∷ 0 ∷ 0 ∷ 1 ∷ 0 ∷ 2 ∷ 0 ∷ 2 ∷ 0 ∷ 9 ∷ 0 ∷ 0 ∷ 0 ∷ 2 ∷ 0 ∷ 1 ∷ 0 ∷ 1 ∷ 0 ∷ 1 ∷ 0 ∷ 0 ∷ 0 ∷ 0 ∷ 0 ∷ 0 ∷ 0 ∷ 0 ∷ 0 ∷ 0 ∷ 0 ∷ 0 ∷ 0 ∷ 0 ∷ 0 ∷ 4 ∷ 0 ∷ 2 ∷ 0 ∷ 1 ∷ 0 ∷ 1 ∷ 0 ∷ 0 ∷ 0 ∷ 0 ∷ 0 ∷ 0 ∷ 0 ∷ 1 ∷ 0 ∷ 1 ∷ 0 ∷ 0 ∷ 0 ∷ 0 ∷ 0 ∷ 1 ∷ 0 ∷ 5 ∷ 0 ∷ 0 ∷ 0 ∷ 0 ∷ 0 ∷ 2 ∷ 0 ∷ 5 ∷ 0 ∷ 0 ∷ 0 ∷ 97 ∷ 98 ∷ 99 ∷ 100 ∷ 101 ∷ 102 ∷ 97 ∷ 98 ∷ 99 ∷ []);
      text = (97 ∷ 98 ∷ 99 ∷ 113 ∷ []);
      operations = 50;
      names = 10;
      modules = 0;
      host = (scripted ((evaluation (Some (Append (place Site 3 9) (v.Number (pos 5)))) (Some (Append (place Rule 0 0) (v.Number (pos 6)))) eval.Names) ∷ []) []);
      first = [];
      second = [];
      opening = lend 128 16 64;
      calls = ((lend 128 16 64, run false) ∷ []);
      check = (passes (Some 4));
      answers = ((ran (told 17 (name (place Rule 0 1)) 2 1) 4 ((variable (place Site 3 9) ReadWrite (v.Number (pos 5))) ∷ (variable (place Rule 0 0) ReadWrite (v.Number (pos 6))) ∷ (variable (place Site 3 9) ReadWrite (v.Number (pos 5))) ∷ (variable (place Rule 0 0) ReadWrite (v.Number (pos 6))) ∷ []) []) ∷ []);
    }
    ∷ []
