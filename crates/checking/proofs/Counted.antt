-- Number 5 of a declaration: how many symbols a macro and a library have with it. Assumes nothing.
use Prim.Native.Nat.{ℕ, suc, ◌+◌}
use native.Mathlib.Omega.{arith}
use mathlib.Core.Path.{◌≡◌, refl, ap, sym, ◌∙◌}
use mathlib.Core.Bool.{Bool, ◌&&◌, ◌||◌, not, or-false}
use mathlib.Core.List.{List, [], ◌∷◌}
use lib.Dec.{ltb}
use lib.ListN.{length}
use borrow.Author.Tests.{lt-ltb}
use Rattle.text.specs.Bytes.{Bytes, same}
use Rattle.rules.specs.Choice.{any, count}
use Rattle.rules.specs.Limits.{local_limit, global_limit}
use Rattle.rules.specs.Fields.{Fields, is_empty}
use Rattle.rules.specs.Statement.{Set, Statement, macro, mend, mexit, local, global, set, aif, ago, anop, actr, model}
use Rattle.rules.specs.Library.{Names, firsts, operand_parts, of_kind, locals_by, globals_by, with_globals}
use Rattle.rules.proofs.Symbols.{length-firsts}
use Rattle.names.specs.Names.{names_in}
use Rattle.symbols.specs.Held.{Held}
use Rattle.declaring.specs.Declared.{symbols_in}
use Rattle.checking.specs.Body.{Tables, too_many}

kind-count : (k : Set) (ns : List Bytes) → length (of_kind k ns) ≡ length ns
unfolding of_kind
kind-count k [] = refl
kind-count k (n ∷ ns) = ap suc (kind-count k ns)

some-there : (k : Set) (ns : List Bytes) → not (is_empty (of_kind k ns)) ≡ ltb 0 (length ns)
unfolding of_kind is_empty
some-there k [] = refl
some-there k (n ∷ ns) = sym (lt-ltb 0 (suc (length ns)) (omega arith))

module _ {names : Names} {globals : List (Bytes × Set)} (t : Tables) (h : Held names globals t.own t.global t.shared t.kinds) (f : Fields) where
  -- the rule's test
  abbrev pub past : Statement → Bool
  past st =
      not (is_empty (locals_by f st)) && ltb local_limit (length names.locals + length (locals_by f st))
      || not (is_empty (globals_by f st)) && ltb global_limit (length (with_globals globals (globals_by f st)))

  shared-count : (k : Set) → length (with_globals globals (of_kind k (symbols_in f.operand))) ≡ length globals + count (λ n. not (any (same n) (firsts globals))) (symbols_in f.operand)
      → length (names_in t.shared) + count (λ n. not (any (same n) (names_in t.shared))) (symbols_in f.operand) ≡ length (with_globals globals (of_kind k (symbols_in f.operand)))
  shared-count k g =
      (λ i. length (h.ours i) + count (λ n. not (any (same n) (h.ours i))) (symbols_in f.operand))
      ∙ (ap (λ (m : ℕ). m + count (λ n. not (any (same n) (firsts globals))) (symbols_in f.operand)) (length-firsts globals) ∙ sym g)

  pub too-many : (st : Statement)
      → ((k : Set) → st ≡ global k → length (with_globals globals (of_kind k (symbols_in f.operand))) ≡ length globals + count (λ n. not (any (same n) (firsts globals))) (symbols_in f.operand))
      → too_many t (length names.locals) f.operand st ≡ past st
  unfolding too_many locals_by globals_by is_empty symbols_in operand_parts
  too-many macro g = refl
  too-many mend g = refl
  too-many mexit g = refl
  too-many (local k) g =
      let ns = symbols_in f.operand in
      (λ i. sym (some-there k ns) i && ltb local_limit (length names.locals + sym (kind-count k ns) i)) ∙ sym (or-false (not (is_empty (of_kind k ns)) && ltb local_limit (length names.locals + length (of_kind k ns))))
  too-many (global k) g =
      let ns = symbols_in f.operand in
      λ i. sym (some-there k ns) i && ltb global_limit (shared-count k (g k refl) i)
  too-many (set k) g = refl
  too-many aif g = refl
  too-many ago g = refl
  too-many anop g = refl
  too-many actr g = refl
  too-many model g = refl
