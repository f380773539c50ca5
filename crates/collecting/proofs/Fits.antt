-- A line by its places and its word: its symbols fit into the tables, and these hold them then. Assumes nothing.
use Prim.Native.Nat.{ℕ, ◌+◌, ◌*◌, ◌-◌, ◌≤◌, ◌<◌}
use native.Mathlib.Omega.{arith}
use mathlib.Core.Path.{◌≡◌, refl, ap, ◌∙◌}
use mathlib.Core.Bool.{true, false}
use mathlib.Core.List.{List, [], ◌∷◌, ◌++◌}
use lib.ListN.{length, take, drop, replicate, length-take}
use Rattle.text.specs.Bytes.{Bytes}
use Rattle.text.specs.Words.{word_number}
use Rattle.rules.specs.Choice.{any}
use Rattle.rules.specs.Lexemes.{is_long}
use Rattle.rules.specs.Fields.{is_remark}
use Rattle.rules.specs.Library.{locals_on, globals_on}
use Rattle.std.specs.Prelude.{Option, Some}
use Rattle.rules.specs.Statement.{statement_of}
use Rattle.rules.specs.Grammar.{symbol}
use Rattle.deck.specs.Coders.{set_code}
use Rattle.grammar.specs.Kinds.{number_of}
use Rattle.kinds.specs.declared.Set.{Set as Kept}
use Rattle.kinds.specs.declared.Word.{Word}
use Rattle.kinds.specs.declared.Word.TheVariants.{Lcl, Gbl}
use Rattle.kinds.specs.Kinds.{set_of, statement_by}
use Rattle.words.specs.Places.{place_of}
use Rattle.lent.specs.Splice.{splice}
use Rattle.names.specs.Names.{names_in}
use Rattle.fields.specs.declared.Cuts.{Cuts as Marks}
use Rattle.fields.specs.Cuts.{cuts_of, fields_by}
use Rattle.declaring.specs.Declared.{symbols_in}
use Rattle.filling.specs.Added.{Adds}
use Rattle.collecting.specs.declared.Rows.{Rows as Counts}
use Rattle.collecting.specs.Collected.{Room, Declares, Counted}
use Rattle.collecting.proofs.Words.{local-place, global-place, four-letters}
use Rattle.collecting.proofs.Places.{operand_short}
use Rattle.collecting.proofs.Lines.{declares-nothing, declares-locals, declares-globals, remark-locals, Neither, no-line, local-line, global-line, kind-short, kind-count}

nothing-there : {A : Type 0} (s : List A) → length s ≡ 0 → s ≡ []
nothing-there [] h = refl
nothing-there (a ∷ s) h = absurd (omega (arith, h))

module _ (l : Bytes) (rows : Counts) (own global shared kinds : Bytes) where
  abbrev Stays : Type 0
  Stays = Declares l rows own global shared kinds rows own global shared kinds × Counted l rows rows

  stays : locals_on l ≡ [] → globals_on l ≡ [] → Stays
  stays p q = (declares-nothing l rows own global shared kinds p q, (omega (arith, ap length p), (omega (arith, ap length q), omega (arith, ap length q))))

  pub remark-declares : is_remark l ≡ true → Stays
  remark-declares e = let n = remark-locals l e in stays n.0 n.1

  module _ (c : Marks) (e : is_remark l ≡ false) (f : c ≡ cuts_of l) (word : Option Word) (w : place_of word ≡ word_number (take (c.space - c.operation) (drop c.operation l)))
      (st : statement_by word ≡ statement_of (take (c.space - c.operation) (drop c.operation l))) where
    pub other-declare : Neither (fields_by l c) (statement_by word) → Stays
    other-declare h = let n = no-line l c e f (statement_by word) st h in stays n.0 n.1

    module _ (room : Room l rows own global shared kinds) where
      abbrev operand : Bytes
      operand = take (c.remarks - c.operand) (drop c.operand l)

      short-operand : 3 ≤ place_of word → place_of word < 9 → length operand ≤ 65
      short-operand h k =
          omega (arith, length-take (c.remarks - c.operand) (drop c.operand l), operand_short l c f (four-letters _ (place_of word) w h k), room.line-length)

      module _ (k : Kept) (is : word ≡ Some (Lcl k)) where
        local-short : length operand ≤ 65
        local-short = let e = ap place_of is in let p = local-place k in short-operand (omega (arith, e, p.0)) (omega (arith, e, p.1))

        pub full-declare : rows.own ≡ 64 → Stays
        full-declare z =
            let n = local-line l c e f (statement_by word) st (set_of k) (ap statement_by is) in
            stays (nothing-there (locals_on l) (omega (arith, room.few-own, z))) n.1

        pub locals-fit : (rows.own ≡ 64 → ⊥)
            → ((rows.own + length (take (c.remarks - c.operand) (drop c.operand l))) * 8 ≤ length own)
            × ((rows.own + length (symbols_in (take (c.remarks - c.operand) (drop c.operand l))) ≤ length kinds)
            × (any is_long (symbols_in (take (c.remarks - c.operand) (drop c.operand l))) ≡ false))
        locals-fit z =
            let n = local-line l c e f (statement_by word) st (set_of k) (ap statement_by is) in
            let m = kind-count (set_of k) (symbols_in operand) n.0 in (
              omega (arith, local-short, room.few-own, z, room.sizes.own-size),
              (omega (arith, m, room.few-own, room.sizes.kinds-size), kind-short (set_of k) (symbols_in operand) n.0 room.short-locals),
            )

        pub locals-declare : (r : ℕ) (own₁ kinds₁ : Bytes) (number : ℕ) → number ≡ number_of (symbol (set_of k)) → r ≡ rows.own + length (symbols_in (take (c.remarks - c.operand) (drop c.operand l)))
            → names_in (take (r * 8) own₁) ≡ names_in (take (rows.own * 8) own) ++ symbols_in (take (c.remarks - c.operand) (drop c.operand l))
            → kinds₁ ≡ splice kinds rows.own (replicate (length (symbols_in (take (c.remarks - c.operand) (drop c.operand l)))) number)
            → Declares l rows own global shared kinds (record { own = r; global = rows.global; shared = rows.shared }) own₁ global shared kinds₁
            × Counted l rows (record { own = r; global = rows.global; shared = rows.shared })
        locals-declare r own₁ kinds₁ number v a b d =
            let n = local-line l c e f (statement_by word) st (set_of k) (ap statement_by is) in
            let m = kind-count (set_of k) (symbols_in operand) n.0 in
            let z = ap length n.1 in (
              declares-locals l rows own global shared kinds (set_of k) (symbols_in operand) n.0 n.1 room.few-own room.sizes.kinds-size r own₁ kinds₁ a b
                  (d ∙ ap (λ (m : ℕ). splice kinds rows.own (replicate (length (symbols_in operand)) m)) v),
              (omega (arith, a, m), (omega (arith, z), omega (arith, z))),
            )

      module _ (k : Kept) (is : word ≡ Some (Gbl k)) where
        global-short : length operand ≤ 65
        global-short = let e = ap place_of is in let p = global-place k in short-operand (omega (arith, e, p.0)) (omega (arith, e, p.1))

        pub globals-fit : ((rows.global + length (take (c.remarks - c.operand) (drop c.operand l))) * 8 ≤ length global)
            × (((rows.shared + length (take (c.remarks - c.operand) (drop c.operand l))) * 8 ≤ length shared)
            × ((64 + (rows.shared + length (take (c.remarks - c.operand) (drop c.operand l))) ≤ length kinds)
            × (any is_long (symbols_in (take (c.remarks - c.operand) (drop c.operand l))) ≡ false)))
        globals-fit =
            let n = global-line l c e f (statement_by word) st (set_of k) (ap statement_by is) in
            let s = global-short in (
              omega (arith, s, room.few-global, room.sizes.global-size),
              (
                omega (arith, s, room.few-shared, room.sizes.shared-size),
                (
                  omega (arith, s, room.few-shared, room.sizes.kinds-size),
                  kind-short (set_of k) (symbols_in operand) n.1.0 room.short-globals,
                ),
              ),
            )

        pub globals-declare : (r : Counts) (global₁ shared₁ kinds₁ : Bytes) (number : ℕ) → number ≡ set_code (set_of k) → r.own ≡ rows.own
            → r.global ≡ rows.global + length (symbols_in (take (c.remarks - c.operand) (drop c.operand l)))
            → r.shared ≤ rows.shared + length (symbols_in (take (c.remarks - c.operand) (drop c.operand l)))
            → names_in (take (r.global * 8) global₁) ≡ names_in (take (rows.global * 8) global) ++ symbols_in (take (c.remarks - c.operand) (drop c.operand l))
            → Adds number shared kinds rows.shared (symbols_in (take (c.remarks - c.operand) (drop c.operand l))) shared₁ kinds₁ r.shared
            → Declares l rows own global shared kinds r own global₁ shared₁ kinds₁ × Counted l rows r
        globals-declare r global₁ shared₁ kinds₁ number v o g s n adds =
            let m = global-line l c e f (statement_by word) st (set_of k) (ap statement_by is) in
            let d = kind-count (set_of k) (symbols_in operand) m.1.0 in (
              declares-globals l rows own global shared kinds (set_of k) (symbols_in operand) m.0 m.1.0 m.1.1 number v r global₁ shared₁ kinds₁ o g n adds,
              (omega (arith, o, ap length m.0), (omega (arith, g, d), omega (arith, s, d))),
            )
