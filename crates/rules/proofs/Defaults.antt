-- A keyword's default is read alike in its prototype and alone: what stands before it is `=` outside quotes, what stands behind it a comma or nothing.
use Prim.Native.Nat.{ℕ, ◌<◌}
use native.Mathlib.Nat.{not-suc-le-zero}
use native.Mathlib.Omega.{arith}
use mathlib.Core.Path.{◌≡◌, refl, ap, sym, ◌∙◌, subst}
use mathlib.Core.Logic.{◌⊎◌, inl, inr, ⊎_elim}
use mathlib.Core.Bool.{Bool, true, false, ◌&&◌, ◌||◌, not}
use mathlib.Core.List.{List, [], ◌∷◌, ◌++◌, append_assoc}
use lib.Dec.{eqb}
use lib.ListN.{length, get_or, drop}
use borrow.Author.Tests.{eqb-true, eq-eqb}
use Rattle.text.specs.Bytes.{Bytes, bytes, member}
use Rattle.text.specs.Characters.{letter, digit, letter_or_digit}
use Rattle.rules.specs.Choice.{choose, every}
use Rattle.rules.specs.Lexemes.{ampersand, apostrophe, comma, equals, Lex, byte, mark, ref, lone, byte_of, Before, follows, is_mark, after, field_start, marked, Mode, in_text, after_ampersand, in_symbol, symbols, lexed, unlexed, is_plain}
use Rattle.rules.proofs.Choices.{by, either, chosen, passed_over, and_left, and_right}
use Rattle.rules.proofs.Logic.{clash}
use Rattle.rules.proofs.Lossless.{mark-is}
use Rattle.rules.proofs.Pieces.{flips, quotes, byte-is, Ended, Piece}

abbrev Lexes : Type 0
Lexes = List (Lex Bytes)

-- ---- equations between lists

abbrev is_nil : Lexes → Type 0
is_nil [] = Unit {0}
is_nil (x ∷ s) = ⊥

nil-is-not : {P : Type 0} {x : Lex Bytes} {s : Lexes} → [] ≡ x ∷ s → P
nil-is-not h = absurd (subst is_nil h tt)

nil-is-no-end : {P : Type 0} (z : Lexes) (x : Lex Bytes) (y : Lexes) → [] ≡ z ++ (x ∷ y) → P
nil-is-no-end [] x y h = nil-is-not h
nil-is-no-end (e ∷ z) x y h = nil-is-not h

first-is : {x y : Lex Bytes} {s t : Lexes} → x ∷ s ≡ y ∷ t → x ≡ y
first-is {x} h = ap (λ (l : Lexes). get_or l 0 x) h

rest-is : {x y : Lex Bytes} {s t : Lexes} → x ∷ s ≡ y ∷ t → s ≡ t
rest-is h = ap (λ (l : Lexes). drop 1 l) h

-- where a list is cut before a lexeme: at its start, or later
cut : (e k : Lex Bytes) (out z y : Lexes) → e ∷ out ≡ z ++ (k ∷ y) → ((z ≡ []) × (e ≡ k) × (out ≡ y)) ⊎ ((w : Lexes) × (z ≡ e ∷ w) × (out ≡ w ++ (k ∷ y)))
cut e k out [] y h = inl (refl, first-is h, rest-is h)
cut e k out (f ∷ z) y h = inr (z, ap (λ (x : Lex Bytes). x ∷ z) (sym (first-is h)), rest-is h)

abbrev IsByte : Lex Bytes → Type 0
IsByte (byte c) = Unit {0}
IsByte mark = ⊥
IsByte (ref n) = ⊥
IsByte lone = ⊥

-- ---- reading symbols goes on afresh behind a byte that is no ampersand

record Resumed (c : ℕ) (x z y : Lexes) : Type 0 where
  front : Lexes
  back : Lexes
  whole : x ≡ front ++ (byte c ∷ back)
  again : symbols in_text back ≡ y
  same-quotes : (q : Bool) → quotes q front ≡ quotes q z

-- a lexeme that opens and closes no quote
abbrev Quiet : Lex Bytes → Type 0
Quiet x = (q : Bool) → flips q x ≡ q

quiet : (x : Lex Bytes) → eqb (byte_of x) apostrophe ≡ false → Quiet x
quiet x e q = passed_over _ _ e

-- a byte that passes a test which an apostrophe does not
no-apostrophe : (test : ℕ → Bool) → test apostrophe ≡ false → (c : ℕ) → test c ≡ true → eqb c apostrophe ≡ false
no-apostrophe test f c t = by (eqb c apostrophe) (λ e. clash t (ap test (eqb-true c apostrophe e) ∙ f)) (λ e. e)

module _ (c : ℕ) {y : Lexes} where
  -- a lexeme that is read and handed on
  kept : (x : Lex Bytes) (s z : Lexes) → ((w : Lexes) → symbols in_text s ≡ w ++ (byte c ∷ y) → Resumed c s w y) → x ∷ symbols in_text s ≡ z ++ (byte c ∷ y) → Resumed c (x ∷ s) z y
  kept x s z on h =
      ⊎_elim
      (λ r. subst (λ w. Resumed c (x ∷ s) w y) (sym r.0)
      (record { front = []; back = s; whole = ap (λ (e : Lex Bytes). e ∷ s) r.1; again = r.2; same-quotes = λ q. refl }))
      (λ r.
      let k = on r.0 r.2 in
      subst (λ w. Resumed c (x ∷ s) w y) (sym r.1)
      (record {
        front = x ∷ k.front;
        back = k.back;
        whole = ap (λ (t : Lexes). x ∷ t) k.whole;
        again = k.again;
        same-quotes = λ q. k.same-quotes (flips q x);
      }))
      (cut x (byte c) (symbols in_text s) z y h)

  -- one that is read and not yet handed on
  taken : {x : Lex Bytes} {s z : Lexes} → Quiet x → Resumed c s z y → Resumed c (x ∷ s) z y
  taken {x} {s} {z} e k = record {
    front = x ∷ k.front;
    back = k.back;
    whole = ap (λ (t : Lexes). x ∷ t) k.whole;
    again = k.again;
    same-quotes = λ q. ap (λ (b : Bool). quotes b k.front) (e q) ∙ k.same-quotes q;
  }

  -- one that is handed on, and is not the byte
  given : (e : Lex Bytes) (x out z : Lexes) → (e ≡ byte c → ⊥) → Quiet e → ((w : Lexes) → out ≡ w ++ (byte c ∷ y) → Resumed c x w y) → e ∷ out ≡ z ++ (byte c ∷ y)
      → Resumed c x z y
  given e x out z n q on h =
      ⊎_elim (λ r. absurd (n r.1))
      (λ r.
      let k = on r.0 r.2 in
      subst (λ w. Resumed c x w y) (sym r.1)
      (record {
        front = k.front;
        back = k.back;
        whole = k.whole;
        again = k.again;
        same-quotes = λ b. k.same-quotes b ∙ sym (ap (λ (t : Bool). quotes t r.0) (q b));
      }))
      (cut e (byte c) out z y h)

lone-is-no-byte : (c : ℕ) → ◌≡◌ {A = Lex Bytes} lone (byte c) → ⊥
lone-is-no-byte c h = subst IsByte (sym h) tt

ref-is-no-byte : (n : Bytes) (c : ℕ) → ◌≡◌ {A = Lex Bytes} (ref n) (byte c) → ⊥
ref-is-no-byte n c h = subst IsByte (sym h) tt

other_byte : (c : ℕ) → eqb c ampersand ≡ false → ◌≡◌ {A = Lex Bytes} (byte ampersand) (byte c) → ⊥
unfolding byte_of
other_byte c a h = clash (eq-eqb c ampersand (sym (ap byte_of h))) a

resumes : (c : ℕ) → eqb c ampersand ≡ false → (m : Mode) (x z y : Lexes) → symbols m x ≡ z ++ (byte c ∷ y) → Resumed c x z y
unfolding symbols letter digit letter_or_digit byte_of choose
resumes c a in_text [] z y h = nil-is-no-end z (byte c) y h
resumes c a after_ampersand [] z y h = given c lone [] [] z (lone-is-no-byte c) (quiet lone refl) (λ w g. nil-is-no-end w (byte c) y g) h
resumes c a (in_symbol n) [] z y h = given c (ref n) [] [] z (ref-is-no-byte n c) (quiet (ref n) refl) (λ w g. nil-is-no-end w (byte c) y g) h
resumes c a in_text (x ∷ s) z y h =
    either (λ (r : Lexes). r ≡ z ++ (byte c ∷ y) → Resumed c (x ∷ s) z y) (eqb (byte_of x) ampersand)
    (λ e g. taken c (quiet x (no-apostrophe (λ k. eqb k ampersand) refl (byte_of x) e)) (resumes c a after_ampersand s z y g))
    (λ e g. kept c x s z (λ w. resumes c a in_text s w y) g) h
resumes c a after_ampersand (x ∷ s) z y h =
    either (λ (r : Lexes). r ≡ z ++ (byte c ∷ y) → Resumed c (x ∷ s) z y) (eqb (byte_of x) ampersand)
    (λ e g. given c (byte ampersand) (x ∷ s) _ z (other_byte c a) (quiet (byte ampersand) refl)
    (λ w. given c (byte ampersand) (x ∷ s) _ w (other_byte c a) (quiet (byte ampersand) refl)
    (λ v k. taken c (quiet x (no-apostrophe (λ k. eqb k ampersand) refl (byte_of x) e)) (resumes c a in_text s v y k))) g)
    (λ e. either (λ (r : Lexes). r ≡ z ++ (byte c ∷ y) → Resumed c (x ∷ s) z y) (letter (byte_of x))
    (λ f g. taken c (quiet x (no-apostrophe letter refl (byte_of x) f)) (resumes c a (in_symbol (byte_of x ∷ [])) s z y g))
    (λ f g. given c lone (x ∷ s) _ z (lone-is-no-byte c) (quiet lone refl) (λ w. kept c x s w (λ v. resumes c a in_text s v y)) g)) h
resumes c a (in_symbol n) (x ∷ s) z y h =
    either (λ (r : Lexes). r ≡ z ++ (byte c ∷ y) → Resumed c (x ∷ s) z y) (letter_or_digit (byte_of x))
    (λ e g. taken c (quiet x (no-apostrophe letter_or_digit refl (byte_of x) e)) (resumes c a (in_symbol (n ++ (byte_of x ∷ []))) s z y g))
    (λ e. either (λ (r : Lexes). r ≡ z ++ (byte c ∷ y) → Resumed c (x ∷ s) z y) (eqb (byte_of x) ampersand)
    (λ f g. given c (ref n) (x ∷ s) _ z (ref-is-no-byte n c) (quiet (ref n) refl)
    (λ w k. taken c (quiet x (no-apostrophe (λ k. eqb k ampersand) refl (byte_of x) f)) (resumes c a after_ampersand s w y k)) g)
    (λ f g. given c (ref n) (x ∷ s) _ z (ref-is-no-byte n c) (quiet (ref n) refl) (λ w. kept c x s w (λ v. resumes c a in_text s v y)) g)) h

-- ---- reading marks goes on behind a byte that is no apostrophe

record Continued (c : ℕ) (q : Bool) (x : Lexes) : Type 0 where
  at : Before
  rest : Bytes
  are : x ≡ marked true at rest
  behind : at.first ≡ c
  in-quotes : at.quoted ≡ q

and_none : (t : Bool) → (t && false) ≡ false
and_none true = refl
and_none false = refl

and-all : (t : Bool) → (t && true) ≡ t
and-all true = refl
and-all false = refl

-- a byte that is no mark
marked-byte : (k : Bool) (d c : ℕ) → ◌≡◌ {A = Lex Bytes} (choose k mark (byte d)) (byte c) → d ≡ c
unfolding choose byte_of
marked-byte true d c h = absurd (subst IsByte (sym h) tt)
marked-byte false d c h = ap byte_of h

after-flips : (b : Before) (c : ℕ) (s : Bytes) → (after true b c s).quoted ≡ flips b.quoted (choose (is_mark b c s) mark (byte c))
unfolding after byte_of choose
after-flips b c s = go (is_mark b c s)
  where
    go : (k : Bool) → choose (eqb c apostrophe && not k) (true && not b.quoted) b.quoted ≡ flips b.quoted (choose k mark (byte c))
    go true = passed_over _ _ (and_none (eqb c apostrophe))
    go false = ap (λ (u : Bool). choose u (not b.quoted) b.quoted) (and-all (eqb c apostrophe))

continues : (c : ℕ) → eqb c apostrophe ≡ false → (b : Before) (s : Bytes) (z y : Lexes) → marked true b s ≡ z ++ (byte c ∷ y) → Continued c (quotes b.quoted z) y
unfolding marked after
continues c a b [] z y h = nil-is-no-end z (byte c) y h
continues c a b (d ∷ s) z y h =
    ⊎_elim
    (λ r.
    let e = marked-byte (is_mark b d s) d c r.1 in
    subst (λ w. Continued c (quotes b.quoted w) y) (sym r.0)
    (record { at = after true b d s; rest = s; are = sym r.2; behind = e; in-quotes = passed_over _ _ (ap (λ (k : ℕ). eqb k apostrophe && not (is_mark b d s)) e ∙ ap (λ (t : Bool). t && not (is_mark b d s)) a) }))
    (λ r.
    let k = continues c a (after true b d s) s r.0 y r.2 in
    subst (λ w. Continued c (quotes b.quoted w) y) (sym r.1) (subst (λ t. Continued c (quotes t r.0) y) (after-flips b d s) k))
    (cut (choose (is_mark b d s) mark (byte d)) (byte c) (marked true (after true b d s) s) z y h)

-- behind `=` outside quotes marks are read as at a field's start
restarts : (k : ℕ) (s : Bytes) → marked {R = Bytes} true (record { second = k; first = equals; quoted = false }) s ≡ marked true field_start s
unfolding marked is_mark after field_start follows letter digit letter_or_digit choose
restarts k [] = refl
restarts k (c ∷ []) = refl
restarts k (c ∷ (d ∷ s)) = refl

restarted : (b : Before) (s : Bytes) → b.first ≡ equals → b.quoted ≡ false → marked {R = Bytes} true b s ≡ marked true field_start s
restarted b s e q = (λ i. marked true (record { second = b.second; first = e i; quoted = q i }) s) ∙ restarts b.second s

-- ---- a plain text is read as it stands, up to a comma or the end

record Plainly (x d : Lexes) : Type 0 where
  rest : Lexes
  whole : x ≡ d ++ rest
  again : symbols in_text d ≡ d
  ended : Ended rest

-- a symbol that is being read is the next to be handed on
symbol-next : (n : Bytes) (s : Lexes) → (k : Bytes) × (out : Lexes) × (symbols (in_symbol n) s ≡ ref k ∷ out)
unfolding symbols
symbol-next n [] = (n, [], refl)
symbol-next n (x ∷ s) =
    by (letter_or_digit (byte_of x)) (λ e. let r = symbol-next (n ++ (byte_of x ∷ [])) s in (r.0, r.1, chosen _ _ e ∙ r.2))
    (λ e. by (eqb (byte_of x) ampersand) (λ f. (n, symbols after_ampersand s, passed_over _ _ e ∙ chosen _ _ f))
    (λ f. (n, x ∷ symbols in_text s, passed_over _ _ e ∙ passed_over _ _ f)))

-- behind an ampersand left over comes another, or what is not plain
behind-ampersand : (P : Lexes → Type 0) (y : Lex Bytes) (s : Lexes) → (eqb (byte_of y) ampersand ≡ true → P (byte ampersand ∷ (byte ampersand ∷ symbols in_text s)))
    → ((e : Lex Bytes) (out : Lexes) → is_plain e ≡ false → P (e ∷ out)) → P (symbols after_ampersand (y ∷ s))
unfolding symbols is_plain
behind-ampersand P y s pair odd =
    either P (eqb (byte_of y) ampersand) pair
    (λ e. either P (letter (byte_of y))
    (λ f. let r = symbol-next (byte_of y ∷ []) s in subst P (sym r.2) (odd (ref r.0) r.1 refl))
    (λ f. odd lone (y ∷ symbols in_text s) refl))

not-ended : {P : Type 0} (e : Lex Bytes) → is_plain e ≡ false → e ≡ byte comma → P
unfolding is_plain
not-ended e f h = clash (ap is_plain h) f

ampersand-not-ended : {P : Type 0} → ◌≡◌ {A = Lex Bytes} (byte ampersand) (byte comma) → P
ampersand-not-ended h = absurd (other_byte comma refl h)

ended-back : (x : Lexes) → Ended (symbols in_text x) → Ended x
unfolding symbols is_plain choose
ended-back [] h = tt
ended-back (x ∷ []) h =
    either (λ (r : Lexes). Ended r → x ≡ byte comma) (eqb (byte_of x) ampersand) (λ e g. not-ended lone refl g) (λ e g. g) h
ended-back (x ∷ (y ∷ s)) h =
    either (λ (r : Lexes). Ended r → x ≡ byte comma) (eqb (byte_of x) ampersand)
    (λ e. behind-ampersand (λ r. Ended r → x ≡ byte comma) y s (λ f g. ampersand-not-ended g) (λ k out f g. not-ended k f g))
    (λ e g. g) h

module _ (post : Lexes) (ended : Ended post) where
  nothing-plain : (x : Lexes) → symbols in_text x ≡ post → Plainly x []
  unfolding symbols
  nothing-plain x h = record { rest = x; whole = refl; again = refl; ended = ended-back x (subst Ended (sym h) ended) }

  one_plain : (x : Lex Bytes) (s d : Lexes) → eqb (byte_of x) ampersand ≡ false → Plainly s d → Plainly (x ∷ s) (x ∷ d)
  unfolding symbols
  one_plain x s d e r = record {
    rest = r.rest;
    whole = ap (λ (t : Lexes). x ∷ t) r.whole;
    again = passed_over _ _ e ∙ ap (λ (t : Lexes). x ∷ t) r.again;
    ended = r.ended;
  }

  two-plain : (x y : Lex Bytes) (s d : Lexes) → x ≡ byte ampersand → y ≡ byte ampersand → Plainly s d
      → Plainly (x ∷ (y ∷ s)) (byte ampersand ∷ (byte ampersand ∷ d))
  unfolding symbols choose byte_of
  two-plain x y s d e f r = record {
    rest = r.rest;
    whole = λ i. e i ∷ (f i ∷ r.whole i);
    again = ap (λ (t : Lexes). byte ampersand ∷ (byte ampersand ∷ t)) r.again;
    ended = r.ended;
  }

  -- a pair of ampersands is not divided
  pair-plain : (x y : Lex Bytes) (s d : Lexes) → x ≡ byte ampersand → y ≡ byte ampersand → every is_plain d ≡ true
      → ((e : Lexes) → every is_plain e ≡ true → symbols in_text s ≡ e ++ post → Plainly s e)
      → byte ampersand ∷ (byte ampersand ∷ symbols in_text s) ≡ d ++ post → 0 < length d → Plainly (x ∷ (y ∷ s)) d
  unfolding every
  pair-plain x y s [] e f p on h lt = absurd (not-suc-le-zero lt)
  pair-plain x y s (k ∷ []) e f p on h lt = ampersand-not-ended (subst (λ (t : Lexes). Ended t) (sym (rest-is h)) ended)
  pair-plain x y s (k ∷ (j ∷ d)) e f p on h lt =
      let q = on d (and_right (is_plain j) _ (and_right (is_plain k) _ p)) (rest-is (rest-is h)) in
      subst (λ (t : Lexes). Plainly (x ∷ (y ∷ s)) t) (λ i. first-is h i ∷ (first-is (rest-is h) i ∷ d)) (two-plain x y s d e f q)

  plain-again : (x d : Lexes) → every is_plain d ≡ true → symbols in_text x ≡ d ++ post → Plainly x d
  unfolding symbols every is_plain choose
  plain-again [] [] p h = nothing-plain [] h
  plain-again [] (k ∷ d) p h = nil-is-not h
  plain-again (x ∷ []) [] p h = nothing-plain (x ∷ []) h
  plain-again (x ∷ []) (k ∷ d) p h =
      either (λ (r : Lexes). r ≡ k ∷ (d ++ post) → Plainly (x ∷ []) (k ∷ d)) (eqb (byte_of x) ampersand)
      (λ e g. clash (ap is_plain (first-is g) ∙ and_left (is_plain k) _ p) refl)
      (λ e g. subst (λ (j : Lex Bytes). Plainly (x ∷ []) (j ∷ d)) (first-is g) (one_plain x [] d e (plain-again [] d (and_right (is_plain k) _ p) (rest-is g)))) h
  plain-again (x ∷ (y ∷ s)) [] p h = nothing-plain (x ∷ (y ∷ s)) h
  plain-again (x ∷ (y ∷ s)) (k ∷ d) p h =
      either (λ (r : Lexes). r ≡ k ∷ (d ++ post) → Plainly (x ∷ (y ∷ s)) (k ∷ d)) (eqb (byte_of x) ampersand)
      (λ e. behind-ampersand (λ r. r ≡ k ∷ (d ++ post) → Plainly (x ∷ (y ∷ s)) (k ∷ d)) y s
      (λ f g. pair-plain x y s (k ∷ d) (byte-is ampersand x refl e) (byte-is ampersand y refl f) p (λ t. plain-again s t) g (omega arith))
      (λ j out f g. clash (ap is_plain (first-is g) ∙ and_left (is_plain k) _ p) f))
      (λ e g. subst (λ (j : Lex Bytes). Plainly (x ∷ (y ∷ s)) (j ∷ d)) (first-is g)
      (one_plain x (y ∷ s) d e (plain-again (y ∷ s) d (and_right (is_plain k) _ p) (rest-is g)))) h

-- ---- and its marks are read as they stand

marked-unlexed : (b : Before) (c : ℕ) (s : Bytes) (d : Lexes) → unlexed (choose (is_mark b c s) mark (byte c) ∷ d) ≡ c ∷ unlexed d
unfolding unlexed
marked-unlexed b c s d =
    either (λ (x : Lex Bytes). unlexed (x ∷ d) ≡ c ∷ unlexed d) (is_mark b c s) (λ e. ap (λ (k : ℕ). k ∷ unlexed d) (sym (mark-is b c s e))) (λ e. refl)

comma-first : (k : Bool) (c : ℕ) → ◌≡◌ {A = Lex Bytes} (choose k mark (byte c)) (byte comma) → (letter c || eqb c ampersand) ≡ false
unfolding letter digit
comma-first k c h = ap (λ (d : ℕ). letter d || eqb d ampersand) (marked-byte k c comma h)

follows_same : (b : Before) (s : Bytes) (d rest : Lexes) → Ended rest → marked true b s ≡ d ++ rest → follows (unlexed d) ≡ follows s
unfolding marked follows unlexed
follows_same b [] [] rest h e = refl
follows_same b (c ∷ s) [] rest h e = sym (comma-first (is_mark b c s) c (subst Ended (sym e) h))
follows_same b [] (k ∷ d) rest h e = nil-is-not e
follows_same b (c ∷ s) (k ∷ d) rest h e =
    ap follows (ap (λ (x : Lex Bytes). unlexed (x ∷ d)) (sym (first-is e)) ∙ marked-unlexed b c s d)

pub mark-same : (b : Before) (c : ℕ) (s t : Bytes) → follows s ≡ follows t → is_mark b c s ≡ is_mark b c t
unfolding is_mark
mark-same b c s t e = λ i.
    eqb c apostrophe && (not b.quoted && (e i && (member b.first (bytes "KNTL") && not (letter_or_digit b.second || eqb b.second ampersand))))

pub after_same : (b : Before) (c : ℕ) (s t : Bytes) → is_mark b c s ≡ is_mark b c t → after true b c s ≡ after true b c t
unfolding after
after_same b c s t e = λ i. record {
  second = b.first;
  first = c;
  quoted = choose (eqb c apostrophe && not (e i)) (true && not b.quoted) b.quoted;
}

marked-again : (b : Before) (s : Bytes) (d rest : Lexes) → Ended rest → marked true b s ≡ d ++ rest → marked true b (unlexed d) ≡ d
unfolding marked unlexed
marked-again b s [] rest h e = refl
marked-again b [] (k ∷ d) rest h e = nil-is-not e
marked-again b (c ∷ s) (k ∷ d) rest h e =
    let q = mark-same b c (unlexed d) s (follows_same (after true b c s) s d rest h (rest-is e)) in
    let u : unlexed (k ∷ d) ≡ c ∷ unlexed d = ap (λ (x : Lex Bytes). unlexed (x ∷ d)) (sym (first-is e)) ∙ marked-unlexed b c s d in
    ap (marked true b) u
    ∙ ((λ i. choose (q i) mark (byte c) ∷ marked true (after_same b c (unlexed d) s q i) (unlexed d))
    ∙ (λ i. first-is e i ∷ marked-again (after true b c s) s d rest h (rest-is e) i))

-- ---- a default

quotes-append : (q : Bool) (s t : Lexes) → quotes q (s ++ t) ≡ quotes (quotes q s) t
quotes-append q [] t = refl
quotes-append q (x ∷ s) t = quotes-append (flips q x) s t

-- behind `=` outside quotes the reading is that of the bytes there
record Afresh (x : Lexes) : Type 0 where
  rest : Bytes
  are : lexed true rest ≡ x

behind-equals : (s : Bytes) (z y : Lexes) → quotes false z ≡ false → lexed true s ≡ z ++ (byte equals ∷ y) → Afresh y
unfolding lexed field_start
behind-equals s z y e h =
    let r = resumes equals refl in_text (marked true field_start s) z y h in
    let k = continues equals refl field_start s r.front r.back r.whole in
    let m : r.back ≡ marked true field_start k.rest = k.are ∙ restarted k.at k.rest k.behind (k.in-quotes ∙ (r.same-quotes false ∙ e)) in
    record { rest = k.rest; are = ap (symbols in_text) (sym m) ∙ r.again }

-- a plain text that comes first, up to a comma or the end, is read alike alone
plain-first : (s : Bytes) (d post : Lexes) → Ended post → every is_plain d ≡ true → lexed true s ≡ d ++ post → lexed true (unlexed d) ≡ d
unfolding lexed
plain-first s d post e plain h =
    let y = plain-again post e (marked true field_start s) d plain h in
    ap (symbols in_text) (marked-again field_start s d y.rest y.ended y.whole) ∙ y.again

pub default-again : (s n : Bytes) (d : Lexes) → Piece false (lexed true s) (ref n ∷ (byte equals ∷ d)) → every is_plain d ≡ true → lexed true (unlexed d) ≡ d
unfolding byte_of choose
default-again s n d p plain =
    let z = p.pre ++ (ref n ∷ []) in
    let h = p.whole ∙ sym (append_assoc p.pre (ref n ∷ []) (byte equals ∷ (d ++ p.post))) in
    let r = behind-equals s z (d ++ p.post) (quotes-append false p.pre (ref n ∷ []) ∙ p.unquoted) h in
    plain-first r.rest d p.post p.closed plain r.are
