-- Tables that hold a macro's names say which names are declared and of which kind the library's globals are. Assumes nothing.
use Prim.Native.Nat.{ℕ}
use mathlib.Core.Path.{◌≡◌, refl, ap, sym, ◌∙◌}
use mathlib.Core.List.{List, [], ◌∷◌, ◌++◌, map, append_assoc}
use lib.ListN.{length, take, drop}
use Rattle.text.specs.Bytes.{Bytes, same}
use Rattle.rules.specs.Choice.{choose, any}
use Rattle.rules.specs.Statement.{Set, set_a, set_b, set_c}
use Rattle.rules.specs.Grammar.{symbol}
use Rattle.rules.specs.Library.{Names, firsts, parameter_names}
use Rattle.rules.specs.ByLines.{own_names}
use Rattle.rules.specs.Faults.{set_names, is_declared}
use Rattle.grammar.specs.Kinds.{number_of}
use Rattle.symbols.specs.Held.{Held}
use Rattle.declaring.specs.Declared.{is_taken, set_numbered, with_kinds, globals_in}

set_back : (k : Set) → set_numbered (number_of (symbol k)) ≡ k
unfolding set_numbered number_of choose
set_back set_a = refl
set_back set_b = refl
set_back set_c = refl

abbrev number : Bytes × Set → ℕ
number g = number_of (symbol g.1)

kinds-back : (gs : List (Bytes × Set)) (ks : Bytes) → take (length gs) ks ≡ map number gs → with_kinds (firsts gs) ks ≡ gs
unfolding with_kinds firsts
kinds-back [] ks e = refl
kinds-back (g ∷ gs) [] e = cc
kinds-back (g ∷ gs) (k ∷ ks) e =
    let one : k ≡ number g = cc in
    let rest : take (length gs) ks ≡ map number gs = cc in
    λ i. (g.0, (ap set_numbered one ∙ set_back g.1) i) ∷ kinds-back gs ks rest i

firsts-append : (s t : List (Bytes × Set)) → firsts (s ++ t) ≡ firsts s ++ firsts t
unfolding firsts
firsts-append [] t = refl
firsts-append (g ∷ s) t = ap (g.0 ∷◌) (firsts-append s t)

module _ {names : Names} {globals : List (Bytes × Set)} {own global shared kinds : Bytes} (h : Held names globals own global shared kinds) where
  pub globals-held : globals_in shared kinds ≡ globals
  unfolding globals_in
  globals-held = ap (λ (ns : List Bytes). with_kinds ns (drop 64 kinds)) h.ours ∙ kinds-back globals (drop 64 kinds) h.our-kinds

  pub taken-held : (n : Bytes) → is_taken own global n ≡ is_declared names n
  unfolding is_taken is_declared set_names own_names
  taken-held n =
      (λ i. any (same n) (h.mine i ++ h.theirs i))
      ∙ ap (any (same n)) (append_assoc (parameter_names names) (firsts names.locals) (firsts names.globals) ∙ ap (parameter_names names ++◌) (sym (firsts-append names.locals names.globals)))
