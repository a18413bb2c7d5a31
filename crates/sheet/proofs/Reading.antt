-- what is read of the image that is written of a sheet
use Rattle.std.proofs.Common.{◌≡◌, ℕ, zero, suc, ◌+◌, ◌*◌, ◌<◌, true, cond, ◌&&◌, ltb, leb, List, [], ◌∷◌, ◌++◌, length, get_or, drop, Some, None, Err, Option, sym, refl, ap, ◌∙◌, ap₂, subst, inl, inr, arith, lit<}
use mathlib.Core.Path.{fun_ext}
use native.Mathlib.Nat.{mod-add-div}
use Rattle.std.specs.List.{slice_get, flat_map}
use Rattle.std.specs.Option.{option_map}
use Rattle.std.proofs.lemmas.List.{length-append, drop-drop, drop_at, get_or_past}
use Rattle.std.proofs.lemmas.Option.{slice_get-get_or, slice_get_past}
use Rattle.std.proofs.lemmas.Bool.{and_parts, and_from, cases_lt, cond-true, cond-false, lt-ltb, le-ltb, le-leb, eq-eqb}
use Rattle.image.specs.Bytes.{word}
use Rattle.image.specs.Layouts.{headed, counted}
use Rattle.image.specs.Rows.{block_from, block, expr_kind, placed, expr_from, expr_at, fields_from, stmt_from, stmt_at}
use Rattle.image.specs.declared.refusal.Refusal.TheVariants.{Header, Counts}
use Rattle.image.specs.declared.rows.Block.{Block}
use Rattle.image.specs.declared.rows.ExprKind.{ExprKind}
use Rattle.image.specs.declared.rows.ExprKind.TheVariants.{Host, Unit as UnitExpr, False, True}
use Rattle.image.specs.declared.rows.Stmt.TheVariants.{Noop}
use Rattle.rule.specs.Checked.{checked, examined}
use Rattle.sheet.specs.declared.sheet.ExprEntry.{ExprEntry}
use Rattle.sheet.specs.declared.sheet.Sheet.{Sheet}
use Rattle.sheet.specs.declared.sheet.StmtEntry.{StmtEntry}
use Rattle.sheet.specs.Encoding.{low, high, fields_of, kind_number, code_or, block_bytes, stmt_bytes, expr_bytes}
use Rattle.sheet.specs.Images.{written, ReadsAs}
use Rattle.sheet.specs.Ranges.{entry_fits, all_fit, in_range, stmt_fits}
use Rattle.sheet.proofs.Decoding.{stmt_back}
use Rattle.sheet.proofs.Tables.{length-rows, byte_back, first_back, word_back, first_word}

kind_back : (k : ExprKind) (free : ℕ) → expr_kind (kind_number k) (code_or k free) ≡ Some k
kind_back (Host code) free = refl
kind_back UnitExpr free = refl
kind_back False free = refl
kind_back True free = refl

-- an entry of entries that all fit
fits-at : (xs : List StmtEntry) (i : ℕ) (x : StmtEntry) → slice_get xs i ≡ Some x → all_fit xs ≡ true → entry_fits x ≡ true
fits-at [] i x e h = let z : ◌≡◌ {A = ℕ} 0 1 = cc in absurd (omega arith)
fits-at (y ∷ ys) zero x e h = let same : x ≡ y = cc in ap entry_fits same ∙ (and_parts (entry_fits y) (all_fit ys) h).0
fits-at (y ∷ ys) (suc i) x e h = fits-at ys i x e (and_parts (entry_fits y) (all_fit ys) h).1

-- rows by their number, within a table and past it
by_number : {R Q : Type 0} (g : R → Q) (xs : List R) (i n : ℕ) (read : Option Q) → n ≡ length xs → ((x : R) → slice_get xs i ≡ Some x → read ≡ Some (g x)) →
    (d : R) → cond (ltb i n) read None ≡ option_map g (slice_get xs i)
by_number g xs i n read e back d =
    elim (cases_lt i (length xs)) [
      | inl lt ↦
          cond-true (ltb i n) read None (lt-ltb i n (omega arith)) ∙ back (get_or xs i d) (slice_get-get_or xs i d lt) ∙ sym (ap (option_map g) (slice_get-get_or xs i d lt))
      | inr le ↦ cond-false (ltb i n) read None (le-ltb i n (omega arith)) ∙ sym (ap (option_map g) (slice_get_past xs i le))
    ]

-- what a list is asked for past its end
blank-stmt : StmtEntry
blank-stmt = record {
  row = record { at = record { line = 0; column = 0 }; stmt = Noop };
  unread = record { flags = 0; e = 0; p = 0; q = 0; name_offset = 0; name_length = 0; r = 0; t = 0 };
}

blank-expr : ExprEntry
blank-expr = record { row = record { at = record { line = 0; column = 0 }; kind = UnitExpr }; unread = 0; code = 0 }

module _ (x : Sheet) where
  -- the counts of the header
  blocks_back : word (written x) 6 ≡ length x.blocks.now
  blocks_back = mod-add-div (length x.blocks.now) 256

  statements_back : word (written x) 8 ≡ length x.statements.now
  statements_back = mod-add-div (length x.statements.now) 256

  expressions_back : word (written x) 10 ≡ length x.expressions.now
  expressions_back = mod-add-div (length x.expressions.now) 256

  text_back : word (written x) 12 ≡ length x.text.now
  text_back = mod-add-div (length x.text.now) 256

  -- each table stands behind the one before
  statements-there : drop (14 + 4 * length x.blocks.now) (written x) ≡ flat_map stmt_bytes x.statements.now ++ (flat_map expr_bytes x.expressions.now ++ x.text.now)
  statements-there =
      sym (drop-drop (4 * length x.blocks.now) 14 (written x))
      ∙ drop_at (flat_map block_bytes x.blocks.now) _ (4 * length x.blocks.now) (length-rows block_bytes 4 (λ b. refl) x.blocks.now)

  expressions-there : drop (14 + 4 * length x.blocks.now + 20 * length x.statements.now) (written x) ≡ flat_map expr_bytes x.expressions.now ++ x.text.now
  expressions-there =
      sym (drop-drop (20 * length x.statements.now) (14 + 4 * length x.blocks.now) (written x))
      ∙ ap (drop (20 * length x.statements.now)) statements-there
      ∙ drop_at (flat_map stmt_bytes x.statements.now) _ (20 * length x.statements.now) (length-rows stmt_bytes 20 (λ b. refl) x.statements.now)

  text-there : drop (14 + 4 * length x.blocks.now + 20 * length x.statements.now + 8 * length x.expressions.now) (written x) ≡ x.text.now
  text-there =
      sym (drop-drop (8 * length x.expressions.now) (14 + 4 * length x.blocks.now + 20 * length x.statements.now) (written x))
      ∙ ap (drop (8 * length x.expressions.now)) expressions-there
      ∙ drop_at (flat_map expr_bytes x.expressions.now) x.text.now (8 * length x.expressions.now) (length-rows expr_bytes 8 (λ b. refl) x.expressions.now)

  -- block rows
  block_at : (i : ℕ) (b : Block) → slice_get x.blocks.now i ≡ Some b → block_from (written x) (14 + 4 * i) ≡ b
  block_at i b is =
      let rest = flat_map stmt_bytes x.statements.now ++ (flat_map expr_bytes x.expressions.now ++ x.text.now) in
      let first = first_word block_bytes 4 (λ y. refl) (written x) 14 x.blocks.now rest refl i b is b.first (lit< tt) refl refl in
      let count = word_back block_bytes 4 (λ y. refl) (written x) 14 x.blocks.now rest refl i b is 2 b.count (lit< tt) refl refl in
      λ j. record { first = first j; count = count j }

  pub block_back : (i : ℕ) → block (written x) i ≡ get_or x.blocks.now i (record { first = 0; count = 0 })
  unfolding block
  block_back i =
      elim (cases_lt i (length x.blocks.now)) [
        | inl lt ↦
            cond-true (ltb i (word (written x) 6)) _ (record { first = 0; count = 0 }) (lt-ltb i _ (omega (arith, blocks_back)))
            ∙ block_at i (get_or x.blocks.now i (record { first = 0; count = 0 })) (slice_get-get_or x.blocks.now i _ lt)
        | inr le ↦
            cond-false (ltb i (word (written x) 6)) _ (record { first = 0; count = 0 }) (le-ltb i _ (omega (arith, blocks_back)))
            ∙ sym (get_or_past x.blocks.now i _ le)
      ]

  -- statement rows
  fields_at : (i : ℕ) (y : StmtEntry) → slice_get x.statements.now i ≡ Some y → fields_from (written x) (14 + 4 * length x.blocks.now + 20 * i) ≡ fields_of y
  fields_at i y is =
      let rest = flat_map expr_bytes x.expressions.now ++ x.text.now in
      let from = 14 + 4 * length x.blocks.now in
      let z = fields_of y in
      let byte : (k : ℕ) → k < 20 → get_or (written x) (from + 20 * i + k) 0 ≡ get_or (stmt_bytes y) k 0 = byte_back stmt_bytes 20 (λ y. refl) (written x) from x.statements.now rest statements-there i y is in
      let field : (k n : ℕ) → k + 1 < 20 → get_or (stmt_bytes y) k 0 ≡ low n → get_or (stmt_bytes y) (k + 1) 0 ≡ high n → word (written x) (from + 20 * i + k) ≡ n
      = word_back stmt_bytes 20 (λ y. refl) (written x) from x.statements.now rest statements-there i y is in
      let kind = first_back stmt_bytes 20 (λ y. refl) (written x) from x.statements.now rest statements-there i y is (lit< tt) in
      let flags = byte 1 (lit< tt) in
      let line = field 2 z.line (lit< tt) refl refl in
      let column = field 4 z.column (lit< tt) refl refl in
      let e = field 6 z.e (lit< tt) refl refl in
      let p = field 8 z.p (lit< tt) refl refl in
      let q = field 10 z.q (lit< tt) refl refl in
      let offset = field 12 z.name_offset (lit< tt) refl refl in
      let len = field 14 z.name_length (lit< tt) refl refl in
      let r = field 16 z.r (lit< tt) refl refl in
      let t = field 18 z.t (lit< tt) refl refl in
      λ j. record {
        kind = kind j;
        flags = flags j;
        line = line j;
        column = column j;
        e = e j;
        p = p j;
        q = q j;
        name_offset = offset j;
        name_length = len j;
        r = r j;
        t = t j;
      }

  row_of : (y : StmtEntry) → entry_fits y ≡ true → stmt_from (fields_of y) ≡ Some y.row
  row_of y h =
      let k = and_parts (leb y.unread.flags 15) (stmt_fits y.row.stmt y.unread.flags) h in
      stmt_back y.row.stmt y.row.at y.unread k.0 k.1

  statement_back : all_fit x.statements.now ≡ true → (i : ℕ) → stmt_at (written x) i ≡ option_map (λ (y : StmtEntry). y.row) (slice_get x.statements.now i)
  unfolding stmt_at
  statement_back fit i =
      by_number (λ (y : StmtEntry). y.row) x.statements.now i (word (written x) 8) _ statements_back
      (λ y is. ap (λ a. stmt_from (fields_from (written x) (14 + 4 * a + 20 * i))) blocks_back ∙ ap stmt_from (fields_at i y is) ∙ row_of y (fits-at x.statements.now i y is fit))
      blank-stmt

  -- expression rows
  expr_at_lem : (i : ℕ) (y : ExprEntry) → slice_get x.expressions.now i ≡ Some y →
      expr_from (written x) (14 + 4 * length x.blocks.now + 20 * length x.statements.now + 8 * i) ≡ Some y.row
  expr_at_lem i y is =
      let from = 14 + 4 * length x.blocks.now + 20 * length x.statements.now in
      let field : (k n : ℕ) → k + 1 < 8 → get_or (expr_bytes y) k 0 ≡ low n → get_or (expr_bytes y) (k + 1) 0 ≡ high n → word (written x) (from + 8 * i + k) ≡ n
      = word_back expr_bytes 8 (λ y. refl) (written x) from x.expressions.now x.text.now expressions-there i y is in
      let kind = first_back expr_bytes 8 (λ y. refl) (written x) from x.expressions.now x.text.now expressions-there i y is (lit< tt) in
      let line = field 2 y.row.at.line (lit< tt) refl refl in
      let column = field 4 y.row.at.column (lit< tt) refl refl in
      let code = field 6 (code_or y.row.kind y.code) (lit< tt) refl refl in
      let read : expr_from (written x) (from + 8 * i) ≡ placed y.row.at (expr_kind (kind_number y.row.kind) (code_or y.row.kind y.code))
      = λ j. placed (record { line = line j; column = column j }) (expr_kind (kind j) (code j)) in
      read ∙ ap (placed y.row.at) (kind_back y.row.kind y.code)

  expression_back : (i : ℕ) → expr_at (written x) i ≡ option_map (λ (y : ExprEntry). y.row) (slice_get x.expressions.now i)
  unfolding expr_at
  expression_back i =
      by_number (λ (y : ExprEntry). y.row) x.expressions.now i (word (written x) 10) _ expressions_back
      (λ y is. ap₂ (λ a b. expr_from (written x) (14 + 4 * a + 20 * b + 8 * i)) blocks_back statements_back ∙ expr_at_lem i y is)
      blank-expr

  -- the counts of a sheet in range
  record Counted : Type 0 where
    some : leb 1 (length x.blocks.now) ≡ true
    blocks : leb (length x.blocks.now) 256 ≡ true
    statements : leb (length x.statements.now) 1024 ≡ true
    expressions : leb (length x.expressions.now) 1024 ≡ true
    text : leb (length x.text.now) 2048 ≡ true
    fit : all_fit x.statements.now ≡ true

  parted : in_range x ≡ true → Counted
  parted range =
      let b = length x.blocks.now in
      let k = and_parts (leb 1 b && leb b 256) _ range in
      let l = and_parts (leb 1 b) (leb b 256) k.0 in
      let m = and_parts (leb (length x.statements.now) 1024) _ k.1 in
      let n = and_parts (leb (length x.expressions.now) 1024) _ m.1 in
      let o = and_parts (leb (length x.text.now) 2048) (all_fit x.statements.now) n.1 in
      record { some = l.0; blocks = l.1; statements = m.0; expressions = n.0; text = o.0; fit = o.1 }

  length-written : length (written x) ≡ 14 + 4 * word (written x) 6 + 20 * word (written x) 8 + 8 * word (written x) 10 + word (written x) 12
  length-written =
      let a = flat_map block_bytes x.blocks.now in
      let b = flat_map stmt_bytes x.statements.now in
      let c = flat_map expr_bytes x.expressions.now in
      let t = x.text.now in
      omega (
        arith,
        length-append a (b ++ (c ++ t)),
        length-append b (c ++ t),
        length-append c t,
        length-rows block_bytes 4 (λ y. refl) x.blocks.now,
        length-rows stmt_bytes 20 (λ y. refl) x.statements.now,
        length-rows expr_bytes 8 (λ y. refl) x.expressions.now,
        blocks_back,
        statements_back,
        expressions_back,
        text_back,
      )

  -- what is written of a sheet in range is read as the sheet
  module _ (range : in_range x ≡ true) where
    pub reads_as : ReadsAs (written x) x
    reads_as =
        let statement = fun_ext (statement_back (parted range).fit) in
        let expression = fun_ext expression_back in
        let block = fun_ext block_back in
        record {
          rows = λ j. record {
            blocks = blocks_back j;
            statements = statements_back j;
            expressions = expressions_back j;
            text = text_back j;
            block = block j;
            statement = statement j;
            expression = expression j;
          };
          text = (λ j. drop (14 + 4 * blocks_back j + 20 * statements_back j + 8 * expressions_back j) (written x)) ∙ text-there;
        }

    is_headed : headed (written x) ≡ true
    is_headed = and_from (leb 14 (length (written x))) true (le-leb 14 (length (written x)) (omega arith)) refl

    is_counted : counted (written x) ≡ true
    is_counted =
        let c = parted range in
        and_from _ _ (and_from _ _ (ap (leb 1) blocks_back ∙ c.some) (ap (λ n. leb n 256) blocks_back ∙ c.blocks))
        (and_from _ _ (ap (λ n. leb n 1024) statements_back ∙ c.statements)
        (and_from _ _ (ap (λ n. leb n 1024) expressions_back ∙ c.expressions)
        (and_from _ _ (ap (λ n. leb n 2048) text_back ∙ c.text) (eq-eqb _ _ length-written))))

    -- and is refused, if at all, by the rules of its rows
    pub header_back : checked (written x) ≡ examined (written x)
    header_back = cond-true (headed (written x)) _ (Err Header) is_headed ∙ cond-true (counted (written x)) _ (Err Counts) is_counted

-- bytes that are those of a sheet in range are read as the sheet
pub reads_of : (x : Sheet) (v : List ℕ) → in_range x ≡ true → v ≡ written x → ReadsAs v x
reads_of x v range e = subst (λ v. ReadsAs v x) (sym e) (reads_as x range)

pub header_of : (x : Sheet) (v : List ℕ) → in_range x ≡ true → v ≡ written x → checked v ≡ examined v
header_of x v range e = subst (λ v. checked v ≡ examined v) (sym e) (header_back x range)
