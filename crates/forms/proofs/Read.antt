-- Whether what was read is well formed, and whether it is the whole of a field. Assumes nothing.
use Prim.Native.Nat.{ℕ}
use mathlib.Core.Path.{◌≡◌, refl, ◌∙◌}
use mathlib.Core.Bool.{false}
use mathlib.Core.List.{List, [], ◌∷◌}
use lib.Dec.{leb}
use lib.ListN.{length}
use Rattle.std.specs.Prelude.{Ok, Err}
use Rattle.std.specs.Result.{is_ok}
use Rattle.text.specs.Bytes.{Bytes}
use Rattle.rules.specs.Lexemes.{Lex}
use Rattle.rules.specs.Fields.{is_empty}
use Rattle.rules.specs.Grammar.{Kind, got, broken, whole}
use Rattle.rules.specs.Form.{Nothing, is_got}
use Rattle.grammar.specs.declared.Fault.{Fault}
use Rattle.grammar.specs.declared.Fault.TheVariants.{Broken, Deep}
use Rattle.grammar.specs.Tokens.{toks_at, Formed, tells}
use Rattle.grammar.proofs.Places.{empty-is}

pub formed-is : (from : ℕ → List (Lex Kind)) (r : Formed) → is_ok r ≡ is_got (tells from r)
unfolding tells is_got
formed-is from (Ok n) = refl
formed-is from (Err (Broken n)) = refl
formed-is from (Err (Deep n)) = refl

nothing_left : (x : List (Lex Kind)) → is_empty x ≡ is_got (whole {A = Nothing} (got tt x))
unfolding is_empty is_got whole broken
nothing_left [] = refl
nothing_left (y ∷ x) = refl

module _ (kinds code : Bytes) {read : Formed} where
  pub whole-at : {n : ℕ} → read ≡ Ok n → leb (length code) n ≡ is_got (whole (tells (toks_at kinds code) read))
  unfolding tells
  whole-at {n} e = rw e (empty-is kinds code n ∙ nothing_left (toks_at kinds code n))

  pub whole-off : {f : Fault} → read ≡ Err f → false ≡ is_got (whole (tells (toks_at kinds code) read))
  unfolding tells is_got whole
  whole-off {f} e = rw e (go f)
    where
      go : (f : Fault) → false ≡ is_got (whole (tells (toks_at kinds code) (Err f)))
      go (Broken n) = refl
      go (Deep n) = refl
