-- The text of an operand field up to a bare comma, the comma, and the text of what follows are the text of the whole. Assumes nothing.
use Prim.Native.Nat.{ℕ, zero, suc, ◌≤◌, ◌<◌}
use mathlib.Core.Path.{◌≡◌, refl, ap, sym, ◌∙◌, subst}
use mathlib.Core.Bool.{Bool, true, false, false≢true}
use mathlib.Core.List.{List, [], ◌∷◌, ◌++◌}
use mathlib.Core.Option.{Option, none, some}
use lib.Dec.{eqb}
use native.Mathlib.Omega.{arith}
use native.Mathlib.Nat.{le_refl}
use lib.ListN.{length, length-append}
use Rattle.rules.specs.Choice.{choose, while}
use Rattle.rules.specs.Fields.{is_empty}
use Rattle.rules.specs.Lexemes.{comma, period, Lex, byte, mark, ref, lone, Inside, enters, is_bare}
use Rattle.rules.specs.Grammar
use Rattle.rules.specs.Grammar.{Kind, Reference, Got, got, refused, Sense, plain, rest, then, broken, given}
use Rattle.rules.proofs.Choices.{either}
use Rattle.value_wholes.specs.Stillness.{state_after}
use Rattle.value_wholes.proofs.Stills.{calm-none, calm-both, calm-period, state-symbol, after_both, not-read}
use Rattle.value_wholes.proofs.Rules.{Calmly, calmly, calm-symbol, passes-deeper, assoc, first_byte}
use Rattle.value_wholes.proofs.Local.{tail, Agree, same, beyond, local-piece, local-deeper}

module _ {R : Type 0} where
  calm-then : {A W : Type 0} {x : List (Lex R)} {f : Got A R} {k : A → List (Lex R) → Got W R} → Calmly x f → ((v : A) (y : List (Lex R)) → Calmly y (k v y)) → Calmly x (then f k)
  unfolding then
  calm-then {A} {W} {x} (calmly {c} {v} {y} e p) h = go (h v y)
    where
      go : {g : Got W R} → Calmly y g → Calmly x g
      go (calmly {c = d} {v = w} {y = z} f r) = calmly {c = c ++ d} (e ∙ ap (λ l. c ++ l) f ∙ assoc c d z) (calm-both p r)
      go Calmly.off = Calmly.off
  calm-then Calmly.off h = Calmly.off

  calm-given : {A : Type 0} (o : Option A) (here y : List (Lex R)) → Calmly y (given o here y)
  unfolding given
  calm-given none here y = Calmly.off
  calm-given (some v) here y = calmly {c = []} refl calm-none

  calm-broken : {A : Type 0} {x : List (Lex R)} (y : List (Lex R)) → Calmly {A = A} x (broken y)
  unfolding broken
  calm-broken y = Calmly.off

  calm-past-period : {A : Type 0} (v : A) (y : List (Lex R)) → Calmly y (got v (choose (eqb (plain y) period) (rest y) y))
  calm-past-period v y = either (λ z. Calmly y (got v z)) (eqb (plain y) period) (λ h. calmly {c = byte period ∷ []} (first_byte period refl y h) calm-period) (λ h. calmly {c = []} refl calm-none)

abbrev is_nil : {A : Type 0} → List A → Bool
is_nil [] = true
is_nil (a ∷ l) = false

module _ {R N S B : Type 0} (sense : Sense R N S B) (n : ℕ) where
  abbrev inner : List (Lex R) → Got N R
  inner = Grammar.deeper sense n

  abbrev piece : List (Lex R) → Got S R
  piece = Grammar.piece sense inner

  -- a reference in text is calm behind its symbol
  calm-piece : (r : R) (x : List (Lex R)) → Calmly x (piece (ref r ∷ x))
  unfolding Grammar.piece Grammar.referred
  calm-piece r x = calm-then (calm-then (calm-symbol sense (passes-deeper sense n) r x)
      λ f y. either (Calmly y) (Grammar.in_text (sense.kind f.of) _) (λ h. calm-given (sense.text_of f) _ y) (λ h. calm-broken _)) calm-past-period

  -- piece after piece to the end, behind s: what comes out is s'
  pub data Reads : S → List (Lex R) → S → Type 0 where
    done : {s : S} → Reads s [] s
    more : {s t s' : S} {x y : List (Lex R)} → piece x ≡ got t y → Reads (sense.joined s t) y s' → Reads s x s'

  -- what a piece is, and what follows it
  abbrev text_in : S → Got S R → S
  text_in s (got t y) = t
  text_in s (refused e left) = s

  abbrev rest_in : Got S R → List (Lex R)
  rest_in (got t y) = y
  rest_in (refused e left) = []

  abbrev is_some : Got S R → Bool
  is_some (got t y) = true
  is_some (refused e left) = false

  -- a text that is divided at a comma
  pub record Split (s : S) (p q : List (Lex R)) (s' : S) : Type 0 where
    pub middle : S
    pub front : Reads s p middle
    pub behind : Reads (sense.joined middle (sense.character comma)) q s'

  -- one piece more in front
  longer : {s t s' : S} {a : Lex R} {p w q : List (Lex R)} → piece (a ∷ p) ≡ got t w → Split (sense.joined s t) w q s' → Split s (a ∷ p) q s'
  longer e d = record { middle = d.middle; front = more e d.front; behind = d.behind }

  abbrev Goes : S → List (Lex R) → S → Type 0
  Goes s y s' = (i : Inside) (w q : List (Lex R)) → y ≡ w ++ tail q → is_bare {R = R} comma (state_after i w) (byte comma) ≡ true → Split s w q s'

  -- what a calm reader leaves: the state behind p is the state behind what it leaves of p
  state-left : {t : S} {w : List (Lex R)} (i : Inside) (p : List (Lex R)) → Calmly p (got t w) → state_after i p ≡ state_after i w
  state-left {t} {w} i p (calmly {c} e k) = ap (state_after i) e ∙ after_both i c w ∙ ap (λ s. state_after s w) (k.back i)

  past-comma : {t : S} {y : List (Lex R)} (i : Inside) (p q : List (Lex R)) → Calmly (p ++ tail q) (got t y) → length y ≤ length q → is_bare {R = R} comma (state_after i p) (byte comma) ≡ true → ⊥
  past-comma {t} {y} i p q (calmly {c} e k) l b = not-read i p c y q e l (k.bare i) b

  symbol-first : (i : Inside) (r : R) (p : List (Lex R)) → state_after i (ref r ∷ p) ≡ state_after i p
  unfolding state_after
  symbol-first i r p = ap (λ s. state_after s p) (state-symbol r i)

  module _ {s t s' : S} {y : List (Lex R)} (go : Goes (sense.joined s t) y s') (i : Inside) (r : R) (p q : List (Lex R)) (e : piece (ref r ∷ (p ++ tail q)) ≡ got t y)
      (b : is_bare {R = R} comma (state_after i (ref r ∷ p)) (byte comma) ≡ true)
    where
      at_p : is_bare {R = R} comma (state_after i p) (byte comma) ≡ true
      at_p = ap (λ s. is_bare {R = R} comma s (byte comma)) (sym (symbol-first i r p)) ∙ b

      by-agreement : (g h : Got S R) → Agree q g h → g ≡ got t y → piece (ref r ∷ p) ≡ h → Split s (ref r ∷ p) q s'
      by-agreement g h (same {v} w) f k =
          let read : piece (ref r ∷ p) ≡ got t w = k ∙ ap (λ u. got u w) (ap (text_in t) f) in
          let state : state_after i p ≡ state_after i w = state-left i p (subst (Calmly p) read (calm-piece r p)) in
          longer {t = t} read (go i w q (sym (ap rest_in f)) (ap (λ s. is_bare {R = R} comma s (byte comma)) (sym state) ∙ at_p))
      by-agreement g h (beyond {v} {y = z} l) f k =
          absurd (past-comma i p q (subst (Calmly (p ++ tail q)) e (calm-piece r (p ++ tail q))) (subst (λ x. length x ≤ length q) (ap rest_in f) l) at_p)
      by-agreement g h Agree.off f k = absurd (false≢true (ap is_some f))

      reference-step : Split s (ref r ∷ p) q s'
      reference-step = by-agreement _ _ (local-piece sense q (passes-deeper sense n) (local-deeper sense q n) (ref r ∷ p)) e refl

  step : {s t s' : S} {y : List (Lex R)} → Reads (sense.joined s t) y s' → Goes (sense.joined s t) y s' → (i : Inside) (p q : List (Lex R)) → piece (p ++ tail q) ≡ got t y
      → is_bare {R = R} comma (state_after i p) (byte comma) ≡ true → Split s p q s'
  unfolding Grammar.piece state_after broken
  step {s} {t} {s'} {y} r go i [] q e b = record {
    middle = s;
    front = done;
    behind = subst (λ z. Reads (sense.joined s (sense.character comma)) z s') (sym (ap rest_in e)) (subst (λ u. Reads (sense.joined s u) y s') (sym (ap (text_in t) e)) r);
  }
  step {s} {t} {s'} {y} r go i (byte c ∷ p) q e b = longer {t = t} (ap (λ u. got u p) (ap (text_in t) e)) (go (enters i (byte c)) p q (sym (ap rest_in e)) b)
  step {s} {t} {s'} {y} r go i (mark ∷ p) q e b = longer {t = t} (ap (λ u. got u p) (ap (text_in t) e)) (go (enters i mark) p q (sym (ap rest_in e)) b)
  step {s} {t} {s'} {y} r go i (lone ∷ p) q e b = absurd (false≢true (ap is_some e))
  step {s} {t} {s'} {y} r go i (ref r' ∷ p) q e b = reference-step go i r' p q e b

  -- THE LAW
  pub join : {s s' : S} {x : List (Lex R)} → Reads s x s' → Goes s x s'
  join done i [] q e b = absurd (false≢true (ap is_nil (sym e)))
  join done i (a ∷ p) q e b = absurd (false≢true (ap is_nil (sym e)))
  join (more f r) i p q e b = step r (join r) i p q (ap piece (sym e) ∙ f) b

  -- what the grammar's text comes to is read piece after piece
  abbrev goes_on : Got S R → Bool
  goes_on = Grammar.goes_on_text sense inner

  abbrev turn : Got S R → Got S R
  turn = Grammar.add_piece sense inner

  ended : (n e left : ℕ) → while goes_on turn n (refused e left) ≡ refused e left
  unfolding while Grammar.goes_on_text choose
  ended zero e left = refl
  ended (suc n) e left = refl

  reads_end : {s s' : S} (x : List (Lex R)) → ◌≡◌ {A = Got S R} (got s x) (got s' []) → Reads s x s'
  reads_end {s} {s'} x e = subst (λ z. Reads s z s') (sym (ap rest_in e)) (subst (λ u. Reads s [] u) (ap (text_in s) e) done)

  -- one turn, by what the piece is
  module _ {s s' : S} {x : List (Lex R)} (left_over : ℕ) (again : (t : S) (y : List (Lex R)) → while goes_on turn left_over (got t y) ≡ got s' [] → Reads t y s') where
    turn-reads : (g : Got S R) → piece x ≡ g → while goes_on turn left_over (then g (λ t y. got (sense.joined s t) y)) ≡ got s' [] → Reads s x s'
    unfolding then
    turn-reads (got t y) f k = more f (again (sense.joined s t) y k)
    turn-reads (refused e left) f k = absurd (false≢true (ap is_some (sym (ended left_over e left) ∙ k)))

  while-reads : (n : ℕ) {s s' : S} (x : List (Lex R)) → while goes_on turn n (got s x) ≡ got s' [] → Reads s x s'
  unfolding while Grammar.goes_on_text Grammar.add_piece is_empty choose
  while-reads zero x e = reads_end x e
  while-reads (suc n) [] e = reads_end [] e
  while-reads (suc n) {s} {s'} (a ∷ x) e = turn-reads n (λ t y k. while-reads n y k) (piece (a ∷ x)) refl e

  pub text-reads : {s' : S} (x : List (Lex R)) → Grammar.text_within sense n x ≡ got s' [] → Reads sense.empty x s'
  unfolding Grammar.text_within Grammar.text
  text-reads x e = while-reads (length x) x e

  -- and back: a piece takes one lexeme at least
  piece-less : {t : S} {y : List (Lex R)} (x : List (Lex R)) → piece x ≡ got t y → length y < length x
  unfolding Grammar.piece broken
  piece-less [] e = absurd (false≢true (ap is_some e))
  piece-less {t} {y} (byte c ∷ x) e = let l = ap (λ g. length (rest_in g)) e in omega (arith, l)
  piece-less {t} {y} (mark ∷ x) e = let l = ap (λ g. length (rest_in g)) e in omega (arith, l)
  piece-less {t} {y} (ref r ∷ x) e = shorter (subst (Calmly x) e (calm-piece r x))
    where
      shorter : Calmly x (got t y) → length y < suc (length x)
      shorter (calmly {c} f k) = let l = ap length f ∙ length-append c y in omega (arith, l)
  piece-less (lone ∷ x) e = absurd (false≢true (ap is_some e))

  reads-while : {s s' : S} {x : List (Lex R)} → Reads s x s' → (k : ℕ) → length x ≤ k → while goes_on turn k (got s x) ≡ got s' []
  unfolding while Grammar.goes_on_text Grammar.add_piece is_empty choose then
  reads-while done zero l = refl
  reads-while done (suc k) l = refl
  reads-while (more {x = []} f r) zero l = absurd (omega (arith, piece-less [] f))
  reads-while (more {x = a ∷ x} f r) zero l = absurd (omega arith)
  reads-while (more {x = []} f r) (suc k) l = absurd (omega (arith, piece-less [] f))
  reads-while (more {s} {t} {s'} {x = a ∷ x} {y} f r) (suc k) l =
      let m = piece-less (a ∷ x) f in
      let short : length y ≤ k = omega (arith, m, l) in
      ap (λ g. while goes_on turn k (then g (λ t y. got (sense.joined s t) y))) f ∙ reads-while r k short

  pub reads-text : {s' : S} (x : List (Lex R)) → Reads sense.empty x s' → Grammar.text_within sense n x ≡ got s' []
  unfolding Grammar.text_within Grammar.text
  reads-text x r = reads-while r (length x) (le_refl (length x))
