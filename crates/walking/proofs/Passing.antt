-- The walk behind a line without fault stands where the rules stand: what the code's calls require there, and what they give. Assumes nothing.
use Prim.Native.Nat.{ℕ, ◌+◌, ◌-◌, ◌*◌, ◌≤◌}
use native.Mathlib.Omega.{arith}
use mathlib.Core.Path.{◌≡◌, refl, ap, sym, ◌∙◌, subst}
use mathlib.Core.Bool.{Bool, true, false}
use mathlib.Core.List.{List, [], ◌∷◌}
use lib.ListN.{length, take, drop, length-drop}
use Rattle.text.specs.Bytes.{Bytes}
use Rattle.rules.specs.Fields.{lines_of}
use Rattle.rules.specs.Statement.{Set}
use Rattle.rules.specs.Library.{Place, outer, at_prototype, in_body, operation_of, is_macro, is_mend, locals_on, globals_on, with_globals, names_in as names_of}
use Rattle.rules.specs.ByLines.{own_names}
use Rattle.rules.specs.Faults.{Around, ends_declarations, around_after, verdict_from, verdict}
use Rattle.rules.proofs.Accepted.{Faultless, around}
use Rattle.lent.specs.Splice.{splice}
use Rattle.lent.proofs.Writes.{splice-length}
use Rattle.lines.specs.Ends.{in_line, line_end}
use Rattle.statements.proofs.Symbols.{run-within}
use Rattle.labels.specs.Searches.{past_newline}
use Rattle.labels.proofs.Turns.{turn, past-within, past-lines}
use Rattle.names.specs.Names.{padded}
use Rattle.symbols.specs.Declared.{add_locals, add_globals}
use Rattle.collecting.specs.declared.Rows.{Rows as Counts}
use Rattle.collecting.specs.Collected.{Room, Declares, Declared, Prototype, Starts}
use Rattle.walking.specs.declared.Place.{Place as Where}
use Rattle.walking.specs.declared.Body.{Body as Kept}
use Rattle.walking.specs.declared.Place.TheVariants.{Outer, Inner, Prototype as Before}
use Rattle.walking.specs.declared.Walk.{Walk as Stand}
use Rattle.walking.specs.Verdicts.{globals_from, globals_at}
use Rattle.walking.specs.Walks.{Inside, Placed, Follows, Sizes, Walked, Ready}
use Rattle.walking.proofs.Answers.{verdict-on, faultless}
use Rattle.walking.proofs.Declarations as declarations
use Rattle.walking.proofs.Turns.{behind_macro, behind_other, behind_prototype, behind_mend, behind_line}
use Rattle.walking.proofs.Turns as turns

-- ---- the place

-- no place is another
place_number : Where → ℕ
place_number Outer = 0
place_number Before = 1
place_number (Inner here) = 2

kept : Kept → Where → Kept
kept k Outer = k
kept k Before = k
kept k (Inner here) = here

same-body : (here there : Kept) → Inner here ≡ Inner there → here ≡ there
unfolding kept
same-body here there e = ap (kept here) e

pub before-apart : {pl : Where} → pl ≡ Before → pl ≡ Outer → ⊥
unfolding place_number
before-apart e f = omega (arith, ap place_number (sym e ∙ f))

pub inner-apart : {pl : Where} {here : Kept} → pl ≡ Inner here → pl ≡ Outer → ⊥
unfolding place_number
inner-apart e f = omega (arith, ap place_number (sym e ∙ f))

module _ (library : Bytes) (w : Stand) (own global shared kinds : Bytes) (gs : List (Bytes × Set)) where
  pub is-outer : (pl : Place) → Placed library w own global shared kinds gs pl → w.place ≡ Outer → pl ≡ outer
  unfolding place_number
  is-outer outer h e = refl
  is-outer at_prototype h e = absurd (omega (arith, ap place_number (sym h.0 ∙ e)))
  is-outer (in_body p before) h e = absurd (omega (arith, ap place_number (sym h.1.is_body ∙ e)))

  pub is-prototype : (pl : Place) → Placed library w own global shared kinds gs pl → w.place ≡ Before → pl ≡ at_prototype
  unfolding place_number
  is-prototype outer h e = absurd (omega (arith, ap place_number (sym h.0 ∙ e)))
  is-prototype at_prototype h e = refl
  is-prototype (in_body p before) h e = absurd (omega (arith, ap place_number (sym h.1.is_body ∙ e)))

  -- in a body, of which the walk has `here`
  pub is-inside : {C : Type 0} (here : Kept) (pl : Place) → Placed library w own global shared kinds gs pl → w.place ≡ Inner here
      → ((p : Bytes) (before : List Bytes) → pl ≡ in_body p before → Inside library w here own global shared kinds gs p before → C) → C
  unfolding place_number
  is-inside here outer h e k = absurd (omega (arith, ap place_number (sym h.0 ∙ e)))
  is-inside here at_prototype h e k = absurd (omega (arith, ap place_number (sym h.0 ∙ e)))
  is-inside here (in_body p before) h e k =
      k p before refl (subst (λ (q : Kept). Inside library w q own global shared kinds gs p before) (same-body h.0 here (sym h.1.is_body ∙ e)) h.1)

pub as-placed : (a : Around) (pl : Place) → a.place ≡ pl → a ≡ around a.lines a.macros a.titles a.globals pl
as-placed a pl e = λ i. record { lines = a.lines; macros = a.macros; titles = a.titles; globals = a.globals; place = e i }

-- ---- all that is known at a place

module _ (library : Bytes) (w : Stand) (end : ℕ) (titles own global shared kinds : Bytes) where
  abbrev l : Bytes
  l = take (end - w.at) (drop w.at library)

  abbrev ls : List Bytes
  ls = lines_of (drop (end + 1) library)

  record Known (pl : Place) : Type 0 where
    n : ℕ
    m : ℕ
    ts : List Bytes
    gs : List (Bytes × Set)
    follows : Follows library w titles own global shared kinds (around n m ts gs pl)
    fine : Faultless (around n m ts gs pl) l ls
    on : verdict_from (around_after l (around n m ts gs pl)) (lines_of (drop (past_newline library end) library)) ≡ verdict library
    globals-on : globals_from (around_after l (around n m ts gs pl)) (lines_of (drop (past_newline library end) library)) ≡ globals_at library

  module _ (r : Ready library w end titles own global shared kinds) where
    abbrev a : Around
    a = r.walked.around

    lines : lines_of (drop w.at library) ≡ l ∷ ls
    lines = turn library w.at end r.in-file r.end_is

    lines-on : ls ≡ lines_of (drop (past_newline library end) library)
    lines-on = past-lines library w.at end r.in-file r.end_is

    on-from : verdict_from (around_after l a) (lines_of (drop (past_newline library end) library)) ≡ verdict library
    on-from = ap (verdict_from (around_after l a)) (sym lines-on) ∙ (sym (verdict-on a l ls r.no-fault) ∙ (ap (verdict_from a) (sym lines) ∙ r.walked.verdict-is))

    globals-from : globals_from (around_after l a) (lines_of (drop (past_newline library end) library)) ≡ globals_at library
    unfolding globals_from
    globals-from = ap (globals_from (around_after l a)) (sym lines-on) ∙ (ap (globals_from a) (sym lines) ∙ r.walked.globals-are)

    known : (pl : Place) → a.place ≡ pl → Known pl
    known pl e =
        let q = as-placed a pl e in
        record {
          n = a.lines;
          m = a.macros;
          ts = a.titles;
          gs = a.globals;
          follows = subst (Follows library w titles own global shared kinds) q r.walked.follows;
          fine = subst (λ (k : Around). Faultless k l ls) q (faultless a l ls r.no-fault);
          on = subst (λ (k : Around). verdict_from (around_after l k) (lines_of (drop (past_newline library end) library)) ≡ verdict library) q on-from;
          globals-on = subst (λ (k : Around). globals_from (around_after l k) (lines_of (drop (past_newline library end) library)) ≡ globals_at library) q globals-from;
        }

    abbrev placed : Placed library w own global shared kinds a.globals a.place
    placed = r.walked.follows.placed

    pub line-inside : (w.at ≤ end) × (end ≤ length library)
    unfolding line_end
    line-inside =
        let h = run-within in_line (drop w.at library) in
        let n = length-drop w.at library in
        (omega (arith, r.end_is), omega (arith, r.end_is, h, n, r.in-file))

    pub next-inside : past_newline library end ≤ length library
    next-inside = (past-within library w.at end r.in-file r.end_is).1

    pub few-lines : w.lines ≤ 512
    few-lines = r.walked.follows.few-lines

    -- ---- outside definitions

    module _ (z : w.place ≡ Outer) where
      here : Known outer
      here = known outer (is-outer library w own global shared kinds a.globals a.place placed z)

      pub macro-walked : (next : ℕ) → next ≡ past_newline library end → is_macro (take (end - w.at) (drop w.at library)) ≡ true
          → Walked library (behind_macro w next) titles own global shared kinds
      macro-walked next e t =
          let k = here in
          let f = turns.macro-passed library w titles own global shared kinds k.n k.m k.ts k.gs (past_newline library end) l ls k.follows k.fine next-inside t in
          subst (λ (x : ℕ). Walked library (behind_macro w x) titles own global shared kinds) (sym e)
          (record { around = around_after l (around k.n k.m k.ts k.gs outer); follows = f; sizes = r.walked.sizes; verdict-is = k.on; globals-are = k.globals-on })

      pub other-walked : (next : ℕ) → next ≡ past_newline library end → is_macro (take (end - w.at) (drop w.at library)) ≡ false
          → Walked library (behind_other w next) titles own global shared kinds
      other-walked next e t =
          let k = here in
          let f = turns.other-passed library w titles own global shared kinds k.n k.m k.ts k.gs (past_newline library end) l ls k.follows k.fine next-inside t in
          subst (λ (x : ℕ). Walked library (behind_other w x) titles own global shared kinds) (sym e)
          (record { around = around_after l (around k.n k.m k.ts k.gs outer); follows = f; sizes = r.walked.sizes; verdict-is = k.on; globals-are = k.globals-on })

    -- ---- at a prototype

    module _ (z : w.place ≡ Before) where
      there : Known at_prototype
      there = known at_prototype (is-prototype library w own global shared kinds a.globals a.place placed z)

      pub few-titles : w.titles ≤ 32
      few-titles = let k = there in omega (arith, k.follows.placed.1, k.follows.few-macros)

      pub title-room : (operation : Bytes) → operation ≡ operation_of (take (end - w.at) (drop w.at library)) → (w.titles * 8 + 8 ≤ length titles) × (length operation ≤ 8)
      title-room operation e =
          let k = there in (
            omega (arith, k.follows.placed.1, k.follows.few-macros, r.walked.sizes.titles-size),
            omega (arith, ap length e, turns.title-short k.n k.m k.ts k.gs l ls k.fine),
          )

      pub prototype-fine : Prototype (take (end - w.at) (drop w.at library)) own kinds
      prototype-fine =
          let k = there in
          record {
            own-size = r.walked.sizes.own-size;
            kinds-size = r.walked.sizes.kinds-size;
            line-length = turns.line-short k.fine;
            short-parts = turns.short-parts k.n k.m k.ts k.gs l ls k.fine;
            short-name = turns.short-name k.n k.m k.ts k.gs l ls k.fine;
            good-parts = turns.good-parts k.n k.m k.ts k.gs l ls k.fine;
            few = turns.few-symbols k.n k.m k.ts k.gs l ls k.fine;
          }

      pub prototype-walked : (next : ℕ) (operation titles' own' kinds' : Bytes) (count : ℕ) → next ≡ past_newline library end
          → operation ≡ operation_of (take (end - w.at) (drop w.at library)) → titles' ≡ splice titles (w.titles * 8) (padded operation)
          → Starts (take (end - w.at) (drop w.at library)) kinds count own' kinds' → count ≡ length (own_names (names_of (take (end - w.at) (drop w.at library)) []))
          → drop 64 kinds' ≡ drop 64 kinds → length own' ≡ length own → length kinds' ≡ length kinds
          → Walked library (behind_prototype w next count) titles' own' global shared kinds'
      prototype-walked next operation titles' own' kinds' count e o t starts c d long long₂ =
          let k = there in
          let s = r.walked.sizes in
          let x = k.follows.globals-in in
          let t' = t ∙ ap (λ (y : Bytes). splice titles (w.titles * 8) (padded y)) o in
          let held = starts k.gs (take (w.rows.shared * 8) shared) x.listed (ap (λ (y : ℕ). take y (drop 64 kinds)) x.counted ∙ x.numbered)
          (omega (arith, x.counted, k.follows.few-globals)) in
          let f = turns.prototype-passed library w titles own global shared kinds k.n k.m k.ts k.gs (past_newline library end) l ls k.follows k.fine next-inside
          titles' own' kinds' count t' s.titles-size held c d in
          subst (λ (y : ℕ). Walked library (behind_prototype w y count) titles' own' global shared kinds') (sym e)
          (record {
            around = around_after l (around k.n k.m k.ts k.gs at_prototype);
            follows = f;
            sizes = record {
              titles-size = omega (arith, s.titles-size, ap length t, splice-length titles (w.titles * 8) (padded operation));
              own-size = omega (arith, s.own-size, long);
              global-size = s.global-size;
              shared-size = s.shared-size;
              kinds-size = omega (arith, s.kinds-size, long₂);
            };
            verdict-is = k.on;
            globals-are = k.globals-on;
          })

    -- ---- in a body

    module _ (here : Kept) (z : w.place ≡ Inner here) where
      -- the prototype, and the lines before
      record InBody : Type 0 where
        p : Bytes
        before : List Bytes
        all : Known (in_body p before)
        same : all.follows.placed.0 ≡ here

      within : InBody
      within =
          is-inside library w own global shared kinds a.globals here a.place placed z
          (λ p before e _. let k = known (in_body p before) e in
          record { p = p; before = before; all = k; same = same-body k.follows.placed.0 here (sym k.follows.placed.1.is_body ∙ z) })

      pub line-room : Room (take (end - w.at) (drop w.at library)) w.rows own global shared kinds
      line-room =
          let i = within in
          let k = i.all in
          let s = r.walked.sizes in
          let few : length k.gs ≤ 16 = omega (arith, k.follows.globals-in.counted, k.follows.few-globals) in
          record {
            sizes = record { own-size = s.own-size; global-size = s.global-size; shared-size = s.shared-size; kinds-size = s.kinds-size };
            line-length = turns.line-short k.fine;
            few-own = turns.room-own library w titles own global shared kinds k.n k.m k.ts k.gs i.p i.before end ls k.follows r.in-file r.end_is k.fine;
            few-global = omega (arith, turns.few-global library w own global shared kinds k.gs i.p i.before k.follows.placed.1 few);
            few-shared = omega (arith, k.follows.few-globals);
            short-locals = declarations.short-locals k.n k.m k.ts k.gs i.p i.before l ls k.fine;
            short-globals = declarations.short-globals k.n k.m k.ts k.gs i.p i.before l ls k.fine;
          }

      module _ (own' global' shared' kinds' : Bytes) (o : Counts)
          (declares : Declares (take (end - w.at) (drop w.at library)) w.rows own global shared kinds o own' global' shared' kinds')
          (long₁ : length own' ≡ length own) (long₂ : length global' ≡ length global) (long₃ : length shared' ≡ length shared) (long₄ : length kinds' ≡ length kinds) where
        new-sizes : Sizes titles own' global' shared' kinds'
        new-sizes =
            let s = r.walked.sizes in
            record {
              titles-size = s.titles-size;
              own-size = omega (arith, s.own-size, long₁);
              global-size = omega (arith, s.global-size, long₂);
              shared-size = omega (arith, s.shared-size, long₃);
              kinds-size = omega (arith, s.kinds-size, long₄);
            }

        is-declared : (i : InBody) → Declared (add_globals (add_locals (names_of i.p i.before) (locals_on l)) (globals_on l)) (with_globals i.all.gs (globals_on l)) o own' global' shared' kinds'
        is-declared i =
            let k = i.all in
            let b = k.follows.placed.1 in
            let few = turns.more-globals library w titles own global shared kinds k.n k.m k.ts k.gs i.p i.before end ls k.follows r.in-file r.end_is k.fine in
            declares (names_of i.p i.before) k.gs b.held b.mine b.theirs k.follows.globals-in.counted (omega (arith, few))
            (declarations.one-kind k.n k.m k.ts k.gs i.p i.before l ls k.fine) (declarations.rightly k.n k.m k.ts k.gs i.p i.before l ls k.fine)

        pub mend-walked : (next : ℕ) → next ≡ past_newline library end → is_mend (take (end - w.at) (drop w.at library)) ≡ true
            → Walked library (behind_mend w next o) titles own' global' shared' kinds'
        mend-walked next e t =
            let i = within in
            let k = i.all in
            let d = is-declared i in
            let f = turns.mend-passed library w titles own global shared kinds k.n k.m k.ts k.gs i.p i.before end ls k.follows r.in-file r.end_is k.fine
            own' global' shared' kinds' o d.held d.own d.global d.shared t in
            subst (λ (q : ℕ). Walked library (behind_mend w q o) titles own' global' shared' kinds') (sym e)
            (record { around = around_after l (around k.n k.m k.ts k.gs (in_body i.p i.before)); follows = f; sizes = new-sizes; verdict-is = k.on; globals-are = k.globals-on })

        pub line-walked : (next : ℕ) → next ≡ past_newline library end → is_mend (take (end - w.at) (drop w.at library)) ≡ false
            → (ends : Bool) → ends ≡ ends_declarations (take (end - w.at) (drop w.at library))
            → Walked library (behind_line w here next ends o) titles own' global' shared' kinds'
        line-walked next e t ends q =
            let i = within in
            let k = i.all in
            let d = is-declared i in
            let f = turns.line-passed library w titles own global shared kinds k.n k.m k.ts k.gs i.p i.before end ls k.follows r.in-file r.end_is k.fine
            own' global' shared' kinds' o d.held d.own d.global d.shared t q in
            subst (λ (j : ℕ). Walked library (behind_line w here j ends o) titles own' global' shared' kinds') (sym e)
            (subst (λ (q : Kept). Walked library (behind_line w q (past_newline library end) ends o) titles own' global' shared' kinds') i.same
            (record { around = around_after l (around k.n k.m k.ts k.gs (in_body i.p i.before)); follows = f; sizes = new-sizes; verdict-is = k.on; globals-are = k.globals-on }))
