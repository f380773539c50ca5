-- A text cut at its first bare delimiter: the lexemes of the whole are those of the part before it, the delimiter, and those of the text behind it. At a bare delimiter no
-- symbol and no quote is open, and what stands behind it is read as from a field's start. Assumes nothing.
use Prim.Native.Nat.{ℕ, suc, ◌+◌, ◌≤◌, ◌<◌}
use native.Mathlib.Nat.{not-suc-le-zero, le_of_suc-le-suc}
use native.Mathlib.Omega.{arith}
use mathlib.Core.Path.{◌≡◌, refl, ap, sym, ◌∙◌, subst}
use mathlib.Core.Bool.{Bool, true, false, false≢true, true≢false, ◌&&◌, ◌||◌, not, and-false}
use mathlib.Core.List.{[], ◌∷◌, ◌++◌, append-nil}
use lib.Dec.{eqb, ltb}
use lib.ListN.{length, take, drop}
use lib.Seq.{take_all}
use borrow.Author.Tests.{eqb-true, eqb-false, eq-eqb, ne_eqb, ltb-true, ltb-false}
use Rattle.text.specs.Bytes.{Bytes, bytes, member}
use Rattle.text.specs.Characters.{letter, digit, letter_or_digit}
use Rattle.rules.specs.Choice.{choose, passed}
use Rattle.rules.specs.Lexemes.{space, ampersand, apostrophe, comma, equals, Lex, byte, mark, byte_of, Before, field_start, follows, is_mark, after, marked, in_text, symbols, lexed, Inside, outside, enters, is_bare}
use Rattle.rules.proofs.Choices.{by, either, chosen, passed_over, and_left, and_right}
use Rattle.rules.proofs.Defaults.{mark-same, after_same}
use Rattle.parts.specs.Parts.{bare_at}
use Rattle.parts.proofs.Clear.{Lexes, Clear, clear-passed, clear-symbols, symbols-cut}

-- a byte that ends symbols, opens no quote and is a byte of text
pub record Delimiter (c : ℕ) : Type 0 where
  pub no-lettered : letter_or_digit c ≡ false
  pub no-ampersand : eqb c ampersand ≡ false
  pub no-apostrophe : eqb c apostrophe ≡ false
  pub some_byte : eqb 0 c ≡ false

pub comma-is : Delimiter comma
unfolding letter_or_digit letter digit
comma-is = record { no-lettered = refl; no-ampersand = refl; no-apostrophe = refl; some_byte = refl }

pub equals-is : Delimiter equals
unfolding letter_or_digit letter digit
equals-is = record { no-lettered = refl; no-ampersand = refl; no-apostrophe = refl; some_byte = refl }

or_left : (a b : Bool) → (a || b) ≡ false → a ≡ false
or_left true b h = absurd (true≢false h)
or_left false b h = refl

not-true : (b : Bool) → not b ≡ true → b ≡ false
not-true true h = absurd (false≢true h)
not-true false h = refl

and-all : (b : Bool) → (b && true) ≡ b
and-all true = refl
and-all false = refl

-- a test that c does not pass is not passed by what c is
eqb-other : (test : ℕ → Bool) (c d : ℕ) → test c ≡ false → test d ≡ true → eqb c d ≡ false
eqb-other test c d f t = by (eqb c d) (λ e. absurd (false≢true (sym f ∙ (ap test (eqb-true c d e) ∙ t)))) (λ e. e)

no-letter : (c : ℕ) → letter_or_digit c ≡ false → letter c ≡ false
unfolding letter_or_digit
no-letter c h = or_left (letter c) (digit c) h

-- a letter of K N T L is a letter
no-attribute : (c : ℕ) → letter c ≡ false → member c (bytes "KNTL") ≡ false
unfolding letter
no-attribute c h = λ i. eqb-other letter c 75 h refl i || (eqb-other letter c 78 h refl i || (eqb-other letter c 84 h refl i || (eqb-other letter c 76 h refl i || false)))

-- ---- marks

-- a byte that is bare is no mark
bare-byte : (m : Bool) (d c : ℕ) → eqb 0 c ≡ false → eqb (byte_of {R = Bytes} (choose m mark (byte d))) c ≡ true → (m ≡ false) × (d ≡ c)
unfolding byte_of choose
bare-byte true d c z e = absurd (false≢true (sym z ∙ e))
bare-byte false d c z e = (refl, eqb-true d c e)

-- the byte two places before tells only whether it bounds a symbol
abbrev joins : ℕ → Bool
joins c = letter_or_digit c || eqb c ampersand

module _ (b b' : Before) (j : joins b.second ≡ joins b'.second) (f : b.first ≡ b'.first) (q : b.quoted ≡ b'.quoted) where
  mark-alike : (d : ℕ) (s : Bytes) → is_mark b d s ≡ is_mark b' d s
  unfolding is_mark
  mark-alike d s = λ i. eqb d apostrophe && (not (q i) && (follows s && (member (f i) (bytes "KNTL") && not (j i))))

  after-alike : (d : ℕ) (s : Bytes) → after true b d s ≡ after true b' d s
  unfolding after
  after-alike d s = λ i. record { second = f i; first = d; quoted = choose (eqb d apostrophe && not (mark-alike d s i)) (true && not (q i)) (q i) }

  marked-alike : (s : Bytes) → marked {R = Bytes} true b s ≡ marked true b' s
  unfolding marked
  marked-alike [] = refl
  marked-alike (d ∷ s) = λ i. choose (mark-alike d s i) mark (byte d) ∷ marked true (after-alike d s i) s

no-mark : (b : Before) (d : ℕ) (s : Bytes) → member b.first (bytes "KNTL") ≡ false → is_mark b d s ≡ false
unfolding is_mark
no-mark b d s e =
    ap (λ k. eqb d apostrophe && (not b.quoted && (follows s && (k && not (joins b.second))))) e
    ∙ none (eqb d apostrophe) (not b.quoted) (follows s)
  where
    none : (x y z : Bool) → (x && (y && (z && false))) ≡ false
    none true true z = and-false z
    none true false z = refl
    none false y z = refl

-- a byte is bare where nothing is open
pub stops-at : (c : ℕ) (i : Inside) → i ≡ outside → is_bare {R = Bytes} c i (byte c) ≡ true
unfolding is_bare byte_of outside
stops-at c i h = ap (λ (i : Inside). eqb c c && (not i.quoted && eqb i.depth 0)) h ∙ ap (λ (k : Bool). k && true) (eq-eqb c c refl)

module _ (c : ℕ) (is : Delimiter c) where
  -- behind a delimiter outside quotes marks are read as at a field's start
  restarts : (k : ℕ) (s : Bytes) → marked {R = Bytes} true (record { second = k; first = c; quoted = false }) s ≡ marked true field_start s
  unfolding marked after field_start letter_or_digit letter digit
  restarts k [] = refl
  restarts k (d ∷ s) =
      let b : Before = record { second = k; first = c; quoted = false } in
      let m = no-mark b d s (no-attribute c (no-letter c is.no-lettered)) ∙ sym (no-mark field_start d s refl) in
      let joined : joins c ≡ joins space = λ i. is.no-lettered i || is.no-ampersand i in
      let p : (after true b d s).quoted ≡ (after true field_start d s).quoted = λ i. choose (eqb d apostrophe && not (m i)) true false in
      λ i. choose (m i) mark (byte d) ∷ marked-alike (after true b d s) (after true field_start d s) joined refl p s i

  restarted : (b : Before) (s : Bytes) → b.first ≡ c → b.quoted ≡ false → marked {R = Bytes} true b s ≡ marked true field_start s
  restarted b s e q = (λ i. marked true (record { second = b.second; first = e i; quoted = q i }) s) ∙ restarts b.second s

  -- the part before the delimiter says as much about what follows a byte
  follows-cut : (i : Inside) (b : Before) (s : Bytes) → follows (take (passed (is_bare c) enters i (marked {R = Bytes} true b s)) s) ≡ follows s
  unfolding passed marked follows is_bare
  follows-cut i b [] = refl
  follows-cut i b (d ∷ s) =
      either (λ (n : ℕ). follows (take n (d ∷ s)) ≡ (letter d || eqb d ampersand)) (is_bare c i (choose (is_mark b d s) mark (byte d)))
      (λ e.
      let f = bare-byte (is_mark b d s) d c is.some_byte (and_left _ _ e) in
      sym (ap (λ (k : ℕ). letter k || eqb k ampersand) f.1 ∙ (λ j. no-letter c is.no-lettered j || is.no-ampersand j)))
      (λ e. refl)

  -- quotes are open alike for both readings
  quoted-alike : (i : Inside) (b : Before) (d : ℕ) (s : Bytes) → i.quoted ≡ b.quoted → (enters {R = Bytes} i (choose (is_mark b d s) mark (byte d))).quoted ≡ (after true b d s).quoted
  unfolding enters after byte_of choose
  quoted-alike i b d s q = go (is_mark b d s) ∙ ap (λ (k : Bool). choose (eqb d apostrophe && not (is_mark b d s)) (not k) k) q
    where
      go : (m : Bool) → choose (eqb (byte_of {R = Bytes} (choose m mark (byte d))) apostrophe) (not i.quoted) i.quoted ≡ choose (eqb d apostrophe && not m) (not i.quoted) i.quoted
      go true = sym (passed_over _ _ (and-false (eqb d apostrophe)))
      go false = ap (λ (k : Bool). choose k (not i.quoted) i.quoted) (sym (and-all (eqb d apostrophe)))

  -- a text cut before place e
  record Cut (i : Inside) (b : Before) (s : Bytes) (e : ℕ) : Type 0 where
    end : Inside
    clear : Clear c i (marked true b (take e s)) end
    outer : e < length s → end ≡ outside
    whole : e < length s → marked {R = Bytes} true b s ≡ marked true b (take e s) ++ (byte c ∷ marked true field_start (drop (suc e) s))

  -- at the delimiter
  here : (i : Inside) (b : Before) (d : ℕ) (s : Bytes) → i.quoted ≡ b.quoted → is_bare {R = Bytes} c i (choose (is_mark b d s) mark (byte d)) ≡ true → Cut i b (d ∷ s) 0
  unfolding marked after is_bare outside
  here i b d s q e =
      let x : Lex Bytes = choose (is_mark b d s) mark (byte d) in
      let free = not i.quoted && eqb i.depth 0 in
      let t = bare-byte (is_mark b d s) d c is.some_byte (and_left (eqb (byte_of x) c) free e) in
      let o : free ≡ true = and_right (eqb (byte_of x) c) free e in
      let u : i.quoted ≡ false = not-true i.quoted (and_left (not i.quoted) (eqb i.depth 0) o) in
      let v : (after true b d s).quoted ≡ false =
      (λ j. choose (eqb (t.1 j) apostrophe && not (is_mark b d s)) (true && not b.quoted) b.quoted)
      ∙ (passed_over _ _ (ap (λ (k : Bool). k && not (is_mark b d s)) is.no-apostrophe) ∙ (sym q ∙ u)) in
      record {
        end = i;
        clear = refl;
        outer = λ lt. λ j. record { quoted = u j; depth = eqb-true i.depth 0 (and_right (not i.quoted) (eqb i.depth 0) o) j };
        whole = λ lt. λ j. (passed_over mark (byte d) t.0 ∙ ap byte t.1) j ∷ restarted (after true b d s) s t.1 v j;
      }

  -- one byte more in front
  longer : (i : Inside) (b : Before) (d : ℕ) (s : Bytes) (e : ℕ) → let x : Lex Bytes = choose (is_mark b d s) mark (byte d) in
      is_bare c i x ≡ false → follows (take e s) ≡ follows s → Cut (enters i x) (after true b d s) s e → Cut i b (d ∷ s) (suc e)
  unfolding marked
  longer i b d s e n f r =
      let m = mark-same b d (take e s) s f in
      let p : marked {R = Bytes} true b (d ∷ take e s) ≡ choose (is_mark b d s) mark (byte d) ∷ marked true (after true b d s) (take e s) =
      λ j. choose (m j) mark (byte d) ∷ marked true (after_same b d (take e s) s m j) (take e s) in
      record {
        end = r.end;
        clear = subst (λ (t : Lexes). Clear c i t r.end) (sym p) (n, r.clear);
        outer = λ lt. r.outer (le_of_suc-le-suc lt);
        whole = λ lt. ap (λ (t : Lexes). choose (is_mark b d s) mark (byte d) ∷ t) (r.whole (le_of_suc-le-suc lt))
            ∙ ap (λ (t : Lexes). t ++ (byte c ∷ marked true field_start (drop (suc e) s))) (sym p);
      }

  marked-cut : (s : Bytes) (i : Inside) (b : Before) → i.quoted ≡ b.quoted → Cut i b s (passed (is_bare c) enters i (marked {R = Bytes} true b s))
  unfolding passed marked
  marked-cut [] i b q = record { end = i; clear = refl; outer = λ lt. absurd (not-suc-le-zero lt); whole = λ lt. absurd (not-suc-le-zero lt) }
  marked-cut (d ∷ s) i b q =
      let x : Lex Bytes = choose (is_mark b d s) mark (byte d) in
      either (Cut i b (d ∷ s)) (is_bare c i x) (λ e. here i b d s q e)
      (λ e. longer i b d s _ e (follows-cut (enters i x) (after true b d s) s) (marked-cut s (enters i x) (after true b d s) (quoted-alike i b d s q)))

  -- ---- the lexemes

  module _ (s : Bytes) where
    abbrev e : ℕ
    e = bare_at c s

    cut : Cut outside field_start s e
    unfolding bare_at outside field_start
    cut = marked-cut s outside field_start refl

    turned : eqb ampersand c ≡ false
    turned = ne_eqb ampersand c (λ q. eqb-false c ampersand is.no-ampersand (sym q))

    -- the part before the cut has no bare delimiter, and a scan stands outside behind it
    pub front-clear : (j : Inside) × Clear c outside (lexed true (take e s)) j × (e < length s → j ≡ outside)
    unfolding lexed
    front-clear = (cut.end, clear-symbols c is.some_byte turned (marked true field_start (take e s)) in_text outside cut.end cut.clear, cut.outer)

    pub cut_inside : e < length s → lexed true s ≡ lexed true (take e s) ++ (byte c ∷ lexed true (drop (suc e) s))
    unfolding lexed
    cut_inside h =
        ap (symbols in_text) (cut.whole h)
        ∙ symbols-cut c is.no-lettered (no-letter c is.no-lettered) is.no-ampersand (marked true field_start (take e s)) in_text (marked true field_start (drop (suc e) s))

    pub cut-none : length s ≤ e → lexed true s ≡ lexed true (take e s)
    cut-none h = ap (lexed true) (sym (take_all e s h))

    pub cut-place : passed (is_bare c) enters outside (lexed true s) ≡ length (lexed true (take e s))
    unfolding passed
    cut-place =
        let z = lexed true (take e s) in
        let f = front-clear in
        by (ltb e (length s))
        (λ t.
        let h = ltb-true e (length s) t in
        let w = lexed true (drop (suc e) s) in
        let q : length z + passed (is_bare c) enters f.0 (byte c ∷ w) ≡ length z =
        ap (λ (n : ℕ). length z + n) (chosen 0 (suc (passed (is_bare c) enters (enters f.0 (byte c)) w)) (stops-at c f.0 (f.2 h))) ∙ omega arith in
        ap (passed (is_bare c) enters outside) (cut_inside h) ∙ (clear-passed c outside f.0 z (byte c ∷ w) f.1 ∙ q))
        (λ t.
        let q : length z + 0 ≡ length z = omega arith in
        ap (passed (is_bare c) enters outside) (cut-none (ltb-false e (length s) t) ∙ sym (append-nil z)) ∙ (clear-passed c outside f.0 z [] f.1 ∙ q))
