-- The parts into which an operand is divided stand in it outside quotes, each up to a comma or the operand's end; and a symbol that is read is a name.
use Prim.Native.Nat.{ℕ, suc}
use mathlib.Core.Path.{◌≡◌, refl, ap, sym, ◌∙◌, subst}
use mathlib.Core.Bool.{Bool, true, false, false≢true, ◌&&◌, not}
use mathlib.Core.List.{List, [], ◌∷◌, ◌++◌}
use lib.Dec.{eqb}
use lib.ListN.{length}
use borrow.Author.Tests.{not-true, eqb-true}
use Rattle.text.specs.Bytes.{Bytes}
use Rattle.text.specs.Characters.{letter, letter_or_digit}
use Rattle.rules.specs.Choice.{choose, run, every, on_first}
use Rattle.rules.specs.Lexemes.{ampersand, apostrophe, comma, Lex, byte, mark, ref, lone, byte_of, Before, is_mark, after, field_start, marked, Mode, in_text, after_ampersand, in_symbol, symbols, lexed, Inside, outside, enters, is_bare}
use Rattle.rules.specs.Calls.{parts, divided}
use Rattle.rules.proofs.Choices.{either, chosen, and_left, and_right}
use Rattle.rules.proofs.Logic.{All}

-- ---- quotes

-- whether a quote is open behind a lexeme, and behind several
abbrev pub flips : Bool → Lex Bytes → Bool
flips q x = choose (eqb (byte_of x) apostrophe) (not q) q

abbrev pub quotes : Bool → List (Lex Bytes) → Bool
quotes q [] = q
quotes q (x ∷ s) = quotes (flips q x) s

-- a lexeme that is a given byte
pub byte-is : (c : ℕ) (x : Lex Bytes) → eqb 0 c ≡ false → eqb (byte_of x) c ≡ true → x ≡ byte c
unfolding byte_of
byte-is c (byte d) z e = ap byte (eqb-true d c e)
byte-is c mark z e = absurd (false≢true (sym z ∙ e))
byte-is c (ref n) z e = absurd (false≢true (sym z ∙ e))
byte-is c lone z e = absurd (false≢true (sym z ∙ e))

-- ---- parts

abbrev pub Ended : List (Lex Bytes) → Type 0
Ended [] = Unit {0}
Ended (x ∷ s) = x ≡ byte comma

-- `p` stands in `x`, which starts inside quotes or not
pub record Piece (q : Bool) (x p : List (Lex Bytes)) : Type 0 where
  pub pre : List (Lex Bytes)
  pub post : List (Lex Bytes)
  pub whole : x ≡ pre ++ (p ++ post)
  pub closed : Ended post
  pub unquoted : quotes q pre ≡ false

-- the first part, which goes on from what stands before, and the others
record Pieces (q : Bool) (x : List (Lex Bytes)) (ps : List (List (Lex Bytes))) : Type 0 where
  first : List (Lex Bytes)
  post : List (Lex Bytes)
  others : List (List (Lex Bytes))
  are : ps ≡ first ∷ others
  whole : x ≡ first ++ post
  closed : Ended post
  follow : All (Piece q x) others

one_further : (q r : Bool) (x : Lex Bytes) (s : List (Lex Bytes)) → r ≡ flips q x → (ps : List (List (Lex Bytes))) → All (Piece r s) ps → All (Piece q (x ∷ s)) ps
one_further q r x s e [] h = tt
one_further q r x s e (p ∷ ps) h = (
  record {
    pre = x ∷ h.0.pre;
    post = h.0.post;
    whole = ap (λ (t : List (Lex Bytes)). x ∷ t) h.0.whole;
    closed = h.0.closed;
    unquoted = ap (λ (b : Bool). quotes b h.0.pre) (sym e) ∙ h.0.unquoted;
  },
  one_further q r x s e ps h.1,
)

first_piece : {q : Bool} {x : List (Lex Bytes)} {ps : List (List (Lex Bytes))} → q ≡ false → Pieces q x ps → All (Piece q x) ps
first_piece {q} {x} e r =
    subst (All (Piece q x)) (sym r.are) (record { pre = []; post = r.post; whole = r.whole; closed = r.closed; unquoted = e }, r.follow)

comma-keeps : (q : Bool) (x : Lex Bytes) → x ≡ byte comma → q ≡ flips q x
unfolding choose byte_of
comma-keeps q x e = ap (flips q) (sym e)

divides : (i : Inside) (x : Lex Bytes) (s : List (Lex Bytes)) (ps : List (List (Lex Bytes))) → is_bare comma i x ≡ true → Pieces i.quoted s ps
    → Pieces i.quoted (x ∷ s) ([] ∷ ps)
unfolding is_bare
divides i x s ps e r =
    let c = byte-is comma x refl (and_left (eqb (byte_of x) comma) _ e) in
    let q = not-true i.quoted (and_left (not i.quoted) _ (and_right (eqb (byte_of x) comma) _ e)) in
    record {
      first = [];
      post = x ∷ s;
      others = ps;
      are = refl;
      whole = refl;
      closed = c;
      follow = one_further i.quoted i.quoted x s (comma-keeps i.quoted x c) ps (first_piece q r);
    }

goes-on : (i : Inside) (x : Lex Bytes) (s : List (Lex Bytes)) (ps : List (List (Lex Bytes))) → Pieces (enters i x).quoted s ps → Pieces i.quoted (x ∷ s) (on_first x ps)
unfolding on_first enters
goes-on i x s ps r = record {
  first = x ∷ r.first;
  post = r.post;
  others = r.others;
  are = ap (on_first x) r.are;
  whole = ap (λ (t : List (Lex Bytes)). x ∷ t) r.whole;
  closed = r.closed;
  follow = one_further i.quoted (enters i x).quoted x s refl r.others r.follow;
}

pieces : (i : Inside) (x : List (Lex Bytes)) → Pieces i.quoted x (parts i x)
unfolding parts
pieces i [] = record { first = []; post = []; others = []; are = refl; whole = refl; closed = tt; follow = tt }
pieces i (x ∷ s) =
    either (Pieces i.quoted (x ∷ s)) (is_bare comma i x) (λ e. divides i x s (parts i s) e (pieces i s)) (λ e. goes-on i x s (parts (enters i x) s) (pieces (enters i x) s))

pub parts-stand : (x : List (Lex Bytes)) → All (Piece false x) (divided x)
unfolding divided outside
parts-stand [] = tt
parts-stand (x ∷ s) = first_piece refl (pieces outside (x ∷ s))

-- ---- tests of each lexeme

pub every_append : {A : Type 0} (test : A → Bool) (s t : List A) → every test (s ++ t) ≡ true → (every test s ≡ true) × (every test t ≡ true)
unfolding every
every_append test [] t h = (refl, h)
every_append test (a ∷ s) t h =
    let r = every_append test s t (and_right (test a) _ h) in
    (λ i. and_left (test a) _ h i && r.0 i, r.1)

pub every-part : (test : Lex Bytes → Bool) (q : Bool) (x p : List (Lex Bytes)) → Piece q x p → every test x ≡ true → every test p ≡ true
every-part test q x p r h =
    (every_append test p r.post (every_append test r.pre (p ++ r.post) (ap (every test) (sym r.whole) ∙ h)).1).0

-- ---- symbols are names

abbrev pub is_lettered : Bytes → Bool
is_lettered [] = false
is_lettered (c ∷ s) = letter c && every letter_or_digit s

-- a symbol is a letter, then letters or digits
abbrev pub is_lettered_in : Lex Bytes → Bool
is_lettered_in (byte c) = true
is_lettered_in mark = true
is_lettered_in (ref n) = is_lettered n
is_lettered_in lone = true

abbrev Reading : Mode → Type 0
Reading in_text = Unit {0}
Reading after_ampersand = Unit {0}
Reading (in_symbol n) = is_lettered n ≡ true

every-last : {A : Type 0} (test : A → Bool) (s : List A) (a : A) → every test s ≡ true → test a ≡ true → every test (s ++ (a ∷ [])) ≡ true
unfolding every
every-last test [] a h e = λ i. e i && true
every-last test (b ∷ s) a h e = λ i. and_left (test b) _ h i && every-last test s a (and_right (test b) _ h) e i

longer-name : (n : Bytes) (c : ℕ) → is_lettered n ≡ true → letter_or_digit c ≡ true → is_lettered (n ++ (c ∷ [])) ≡ true
longer-name [] c h e = absurd (false≢true h)
longer-name (d ∷ n) c h e = λ i. and_left (letter d) _ h i && every-last letter_or_digit n c (and_right (letter d) _ h) e i

first-letter : (c : ℕ) → letter c ≡ true → is_lettered (c ∷ []) ≡ true
unfolding every
first-letter c e = λ i. e i && true

symbols-lettered : (m : Mode) (x : List (Lex Bytes)) → Reading m → every is_lettered_in x ≡ true → every is_lettered_in (symbols m x) ≡ true
unfolding symbols every
symbols-lettered in_text [] n h = refl
symbols-lettered after_ampersand [] n h = refl
symbols-lettered (in_symbol k) [] n h = λ i. n i && true
symbols-lettered in_text (x ∷ s) n h =
    let a = and_left (is_lettered_in x) _ h in
    let b = and_right (is_lettered_in x) _ h in
    either (λ (r : List (Lex Bytes)). every is_lettered_in r ≡ true) (eqb (byte_of x) ampersand)
    (λ e. symbols-lettered after_ampersand s tt b)
    (λ e i. a i && symbols-lettered in_text s tt b i)
symbols-lettered after_ampersand (x ∷ s) n h =
    let a = and_left (is_lettered_in x) _ h in
    let b = and_right (is_lettered_in x) _ h in
    let P : List (Lex Bytes) → Type 0 = λ r. every is_lettered_in r ≡ true in
    either P (eqb (byte_of x) ampersand) (λ e. symbols-lettered in_text s tt b)
    (λ e. either P (letter (byte_of x)) (λ f. symbols-lettered (in_symbol (byte_of x ∷ [])) s (first-letter (byte_of x) f) b)
    (λ f i. a i && symbols-lettered in_text s tt b i))
symbols-lettered (in_symbol k) (x ∷ s) n h =
    let a = and_left (is_lettered_in x) _ h in
    let b = and_right (is_lettered_in x) _ h in
    let P : List (Lex Bytes) → Type 0 = λ r. every is_lettered_in r ≡ true in
    either P (letter_or_digit (byte_of x)) (λ e. symbols-lettered (in_symbol (k ++ (byte_of x ∷ []))) s (longer-name k (byte_of x) n e) b)
    (λ e. either P (eqb (byte_of x) ampersand) (λ f i. n i && symbols-lettered after_ampersand s tt b i)
    (λ f i. n i && (a i && symbols-lettered in_text s tt b i)))

marked-lettered : (qs : Bool) (b : Before) (s : Bytes) → every is_lettered_in (marked qs b s) ≡ true
unfolding marked every
marked-lettered qs b [] = refl
marked-lettered qs b (c ∷ s) =
    either (λ (x : Lex Bytes). (is_lettered_in x && every is_lettered_in (marked qs (after qs b c s) s)) ≡ true) (is_mark b c s)
    (λ e. marked-lettered qs (after qs b c s) s) (λ e. marked-lettered qs (after qs b c s) s)

pub lexed-lettered : (qs : Bool) (s : Bytes) → every is_lettered_in (lexed qs s) ≡ true
unfolding lexed
lexed-lettered qs s = symbols-lettered in_text (marked qs field_start s) tt (marked-lettered qs field_start s)

pub run-every : {A : Type 0} (test : A → Bool) (s : List A) → every test s ≡ true → run test s ≡ length s
unfolding run every
run-every test [] h = refl
run-every test (a ∷ s) h = chosen _ _ (and_left (test a) _ h) ∙ ap suc (run-every test s (and_right (test a) _ h))
