-- What a place of a field shows to evaluation, whatever its symbols stand for: as grammar's Places has it for kinds. Assumes nothing.
use Prim.Native.Nat.{ℕ, ◌+◌, ◌≤◌, ◌<◌}
use native.Mathlib.Omega.{arith}
use native.Mathlib.Numerals.{add-one}
use mathlib.Core.Path.{◌≡◌, refl, ap, sym, ◌∙◌}
use mathlib.Core.Bool.{Bool, true, false, ◌&&◌}
use mathlib.Core.List.{List, [], ◌∷◌, map}
use lib.Dec.{eqb, ltb}
use lib.ListN.{length, drop, get_or, drop_of_length-le}
use lib.Seq.{drop-cons}
use Rattle.text.specs.Bytes.{Bytes}
use Rattle.rules.specs.Choice.{choose}
use Rattle.rules.specs.Lexemes.{Lex, byte, mark, ref, lone, byte_of}
use Rattle.rules.specs.Grammar.{Kind, plain, starts_mark, rest, is_attribute}
use Rattle.rules.specs.Evaluate.{Cell}
use Rattle.grammar.specs.Tokens.{lex_of, toks_at}
use Rattle.grammar.proofs.Places.{toks-rest as kinds-rest}
use Rattle.value_sums.specs.Answers.{lex_by, toks_by}
use Rattle.value_sums.proofs.Answers.{same-plain, toks-drop, toks-rest}

-- an attribute mark at a place, and K', N' or T', are the same whatever the symbols stand for
pub same-mark : (kinds : Bytes) (held : ℕ → Cell) (code : Bytes) (at : ℕ) → starts_mark (toks_at kinds code at) ≡ starts_mark (toks_by held code at)
unfolding toks_at toks_by starts_mark lex_of lex_by choose
same-mark kinds held code at = go (drop at code)
  where
    starts : {R : Type 0} → Lex R → Bool
    starts (byte c) = false
    starts mark = true
    starts (ref r) = false
    starts lone = false

    first : {R : Type 0} (y : Lex R) (x : List (Lex R)) → starts_mark (y ∷ x) ≡ starts y
    first (byte c) x = refl
    first mark x = refl
    first (ref r) x = refl
    first lone x = refl

    at_byte : (b : ℕ) → starts (lex_of kinds b) ≡ starts (lex_by held b)
    at_byte b = cases _ _ _ _ (held b) (ltb b 127) (eqb b 127) (ltb b 224) (eqb b 224) (eqb b 225) (eqb b 226) (ltb b 227)
      where
        cases : (k l m n : Kind) (d : Cell) (p q r s t u v : Bool)
            → starts {R = Kind} (choose p (byte b) (choose q mark (choose r (ref k) (choose s (ref l) (choose t (ref m) (choose u (ref n) lone))))))
            ≡ starts {R = Cell} (choose p (byte b) (choose q mark (choose v (ref d) lone)))
        cases k l m n d true q r s t u v = refl
        cases k l m n d false true r s t u v = refl
        cases k l m n d false false true s t u true = refl
        cases k l m n d false false true s t u false = refl
        cases k l m n d false false false true t u true = refl
        cases k l m n d false false false true t u false = refl
        cases k l m n d false false false false true u true = refl
        cases k l m n d false false false false true u false = refl
        cases k l m n d false false false false false true true = refl
        cases k l m n d false false false false false true false = refl
        cases k l m n d false false false false false false true = refl
        cases k l m n d false false false false false false false = refl

    go : (l : Bytes) → starts_mark (map (lex_of kinds) l) ≡ starts_mark (map (lex_by held) l)
    go [] = refl
    go (b ∷ l) = first (lex_of kinds b) (map (lex_of kinds) l) ∙ at_byte b ∙ sym (first (lex_by held b) (map (lex_by held) l))

module _ (held : ℕ → Cell) (code : Bytes) where
  pub toks-end : (at : ℕ) → length code ≤ at → toks_by held code at ≡ []
  unfolding toks_by
  toks-end at h = rw (drop_of_length-le code h)

  pub toks-step : (at : ℕ) → at < length code → toks_by held code at ≡ lex_by held (get_or code at 0) ∷ toks_by held code (at + 1)
  unfolding toks_by
  toks-step at h = rw (add-one at, drop-cons code at 0 h)

  pub goes-past : (at : ℕ) {y : Lex Cell} {x : List (Lex Cell)} → toks_by held code at ≡ y ∷ x → toks_by held code at ≡ y ∷ toks_by held code (at + 1)
  goes-past at {y} {x} e = e ∙ ap (λ z. y ∷ z) (sym (ap (drop 1) e) ∙ toks-drop held code at 1)

  -- a byte of text that is not 0
  pub text-step : (at c : ℕ) → c ≡ plain (toks_by held code at) → 0 < c → toks_by held code at ≡ byte c ∷ toks_by held code (at + 1)
  unfolding plain byte_of
  text-step at c read some = go (toks_by held code at) refl
    where
      go : (x : List (Lex Cell)) → toks_by held code at ≡ x → toks_by held code at ≡ byte c ∷ toks_by held code (at + 1)
      go [] e = let z : c ≡ 0 = read ∙ ap plain e in absurd (omega arith)
      go (byte d ∷ x) e = goes-past at e ∙ ap (λ b. byte b ∷ toks_by held code (at + 1)) (sym (read ∙ ap plain e))
      go (mark ∷ x) e = let z : c ≡ 0 = read ∙ ap plain e in absurd (omega arith)
      go (ref r ∷ x) e = let z : c ≡ 0 = read ∙ ap plain e in absurd (omega arith)
      go (lone ∷ x) e = let z : c ≡ 0 = read ∙ ap plain e in absurd (omega arith)

  pub same-attribute : (kinds : Bytes) (c at : ℕ) → is_attribute c (toks_at kinds code at) ≡ is_attribute c (toks_by held code at)
  unfolding is_attribute
  same-attribute kinds c at = λ i. eqb (same-plain kinds held code at i) c && behind i
    where
      behind : starts_mark (rest (toks_at kinds code at)) ≡ starts_mark (rest (toks_by held code at))
      behind = ap starts_mark (kinds-rest kinds code at) ∙ same-mark kinds held code (at + 1) ∙ ap starts_mark (sym (toks-rest held code at))
