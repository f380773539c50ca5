-- The keywords of an accepted library's macros: names told apart, and defaults that are in order when they are read alone.
use Prim.Native.Nat.{ℕ, zero, suc, ◌≤◌}
use native.Mathlib.Omega.{arith}
use mathlib.Core.Path.{◌≡◌, refl, ap, sym, ◌∙◌, subst}
use mathlib.Core.Bool.{Bool, true, false, false≢true, ◌&&◌, ◌||◌, not}
use mathlib.Core.List.{List, [], ◌∷◌, ◌++◌, append_assoc}
use lib.Dec.{eqb, ltb}
use lib.ListN.{length, take, drop, length-append}
use borrow.Author.Tests.{le-leb, le-ltb, ltb-false, eq-eqb, not-false}
use Rattle.text.specs.Bytes.{Bytes, bytes, same}
use Rattle.text.specs.Characters.{letter, letter_or_digit, in_set}
use Rattle.rules.specs.Choice.{choose, passed, every, any, run}
use Rattle.rules.specs.Limits.{line_limit, name_limit}
use Rattle.rules.specs.Lexemes.{ampersand, apostrophe, equals, Lex, byte, mark, ref, lone, byte_of, is_plain, lexed, unlexed, refs_in, is_long, is_name, outside, enters, is_bare}
use Rattle.rules.specs.Fields.{is_ill_written, starts_with, fields_of}
use Rattle.rules.specs.Statement.{Set}
use Rattle.rules.specs.Calls.{equals_at, has_equals}
use Rattle.rules.specs.Library.{Macro, is_one_symbol, start_symbol, start_symbols, with_default, keyword_names, operand_parts, names_in}
use Rattle.rules.specs.ByLines.{reading}
use Rattle.rules.specs.Faults.{has_long_symbol, declares_wrongly, before_equals, is_default, is_good_part, are_good_parts, accepted, verdict}
use Rattle.rules.proofs.Choices.{by, either, chosen, passed_over, and_left, and_right}
use Rattle.rules.proofs.Logic.{All, clash, or_left, or_right, else-so}
use Rattle.rules.proofs.Lossless.{lexed-back, fields_back}
use Rattle.rules.proofs.Walked.{Proper}
use Rattle.rules.proofs.Prototypes.{none-long, declared-well, parts-good}
use Rattle.rules.proofs.Pieces.{byte-is, Piece, parts-stand, every_append, every-part, is_lettered, is_lettered_in, lexed-lettered, run-every}
use Rattle.rules.proofs.Defaults.{default-again}
use Rattle.deck.specs.Slots.{deck_macro}
use Rattle.deck.specs.Good.{are_distinct_keywords, is_keyword}
use Rattle.deck.proofs.Tests.{none-in-both, none-in-parts}
use Rattle.deck.proofs.Macros.{Each, each-macro}

abbrev Lexes : Type 0
Lexes = List (Lex Bytes)

-- ---- a part with `=`: a symbol, `=`, the default

pub record Keyworded (p : Lexes) : Type 0 where
  pub name : Bytes
  pub default : Lexes
  pub are : p ≡ ref name ∷ (byte equals ∷ default)

no_symbol : {P : Type 0} (x : Lex Bytes) (s : Lexes) (k : ℕ) → is_one_symbol (take k (x ∷ s)) ≡ true → ((t : Lexes) → is_one_symbol (x ∷ t) ≡ false) → P
unfolding is_one_symbol
no_symbol x s zero h f = absurd (false≢true h)
no_symbol x s (suc k) h f = clash h (f (take k s))

-- where a symbol and `=` come first, `=` stands second
second-equals : (n : Bytes) (d : Lexes) → equals_at (ref n ∷ (byte equals ∷ d)) ≡ 1
unfolding equals_at passed is_bare byte_of choose enters outside
second-equals n d = refl

pub part-split : (p : Lexes) → is_one_symbol (before_equals p) ≡ true → has_equals p ≡ true → Keyworded p
unfolding before_equals is_one_symbol has_equals equals_at passed is_bare byte_of choose enters outside
part-split [] h e = absurd (false≢true h)
part-split (byte c ∷ x) h e = no_symbol (byte c) x (equals_at (byte c ∷ x)) h (λ t. refl)
part-split (mark ∷ x) h e = no_symbol mark x (equals_at (mark ∷ x)) h (λ t. refl)
part-split (ref n ∷ []) h e = absurd (false≢true e)
part-split (ref n ∷ (y ∷ d)) h e =
    by (eqb (byte_of y) equals)
    (λ t. record { name = n; default = d; are = ap (λ (x : Lex Bytes). ref n ∷ (x ∷ d)) (byte-is equals y refl t) })
    (λ f. clash h (ap (λ (k : Bool). is_one_symbol (ref n ∷ take (choose (k && true) 0 (suc (passed (is_bare equals) enters (enters outside y) d))) (y ∷ d))) f))
part-split (lone ∷ x) h e = no_symbol lone x (equals_at (lone ∷ x)) h (λ t. refl)

module _ (p : Lexes) (k : Keyworded p) where
  start_is : start_symbol p ≡ k.name ∷ []
  unfolding start_symbol
  start_is = ap start_symbol k.are

  before-is : before_equals p ≡ ref k.name ∷ []
  unfolding before_equals
  before-is = ap before_equals k.are ∙ ap (λ (n : ℕ). take n (ref k.name ∷ (byte equals ∷ k.default))) (second-equals k.name k.default)

  default-is : drop (suc (equals_at p)) p ≡ k.default
  default-is =
      ap (λ (x : Lexes). drop (suc (equals_at x)) x) k.are
      ∙ ap (λ (n : ℕ). drop (suc n) (ref k.name ∷ (byte equals ∷ k.default))) (second-equals k.name k.default)

  pub keyword-is : (ps : List Lexes) → has_equals p ≡ true → keyword_names (p ∷ ps) ≡ (k.name, unlexed k.default) ∷ keyword_names ps
  unfolding keyword_names with_default
  keyword-is ps e =
      ap (λ (s : List (Bytes × Bytes)). s ++ keyword_names ps) (chosen _ _ e ∙ λ i. with_default (start_is i) (unlexed (default-is i)))

  -- its name is short, and its default good, as the rules ask
  name-short : has_long_symbol (before_equals p) ≡ false → is_long k.name ≡ false
  unfolding has_long_symbol any refs_in
  name-short h = or_left (is_long k.name) false (ap has_long_symbol (sym before-is) ∙ h)

  pub default-good : is_good_part p ≡ true → has_equals p ≡ true → is_default k.default ≡ true
  unfolding is_good_part
  default-good g e =
      ap is_default (sym default-is)
      ∙ else-so (not (has_equals p)) (is_default (drop (suc (equals_at p)) p)) (and_right (is_one_symbol (before_equals p)) _ g) (ap not e)

pub first-of-good : (p : Lexes) → is_good_part p ≡ true → is_one_symbol (before_equals p) ≡ true
unfolding is_good_part
first-of-good p g = and_left (is_one_symbol (before_equals p)) _ g

pub no-keyword : (p : Lexes) (ps : List Lexes) → has_equals p ≡ false → keyword_names (p ∷ ps) ≡ keyword_names ps
unfolding keyword_names
no-keyword p ps e = ap (λ (s : List (Bytes × Bytes)). s ++ keyword_names ps) (passed_over _ _ e)

-- ---- bytes

written : (l : Bytes) → is_ill_written l ≡ false → (length l ≤ line_limit) × (every in_set l ≡ true)
unfolding is_ill_written
written l h = (ltb-false line_limit (length l) (or_left _ _ h), not-false _ (or_right (ltb line_limit (length l)) _ h))

well-written : (l : Bytes) → length l ≤ line_limit → every in_set l ≡ true → is_ill_written l ≡ false
unfolding is_ill_written
well-written l h e = λ i. le-ltb line_limit (length l) h i || not (e i)

written-front : (s t : Bytes) → is_ill_written (s ++ t) ≡ false → is_ill_written s ≡ false
written-front s t h =
    let r = written (s ++ t) h in well-written s (omega (arith, r.0, length-append s t)) (every_append in_set s t r.1).0

written_behind : (s t : Bytes) → is_ill_written (s ++ t) ≡ false → is_ill_written t ≡ false
written_behind s t h =
    let r = written (s ++ t) h in well-written t (omega (arith, r.0, length-append s t)) (every_append in_set s t r.1).1

pub operand-written : (l : Bytes) → is_ill_written l ≡ false → is_ill_written (fields_of l).operand ≡ false
operand-written l h =
    let f = fields_of l in
    written-front f.operand f.remarks
    (written_behind f.gap₂ _ (written_behind f.operation _ (written_behind f.gap _ (written_behind f.name _ (ap is_ill_written (fields_back l) ∙ h)))))

unlexed-append : (s t : Lexes) → unlexed (s ++ t) ≡ unlexed s ++ unlexed t
unfolding unlexed
unlexed-append [] t = refl
unlexed-append (byte c ∷ s) t = ap (λ (r : Bytes). c ∷ r) (unlexed-append s t)
unlexed-append (mark ∷ s) t = ap (λ (r : Bytes). apostrophe ∷ r) (unlexed-append s t)
unlexed-append (ref n ∷ s) t = ap (λ (r : Bytes). ampersand ∷ (n ++ r)) (unlexed-append s t) ∙ ap (λ (r : Bytes). ampersand ∷ r) (sym (append_assoc n (unlexed s) (unlexed t)))
unlexed-append (lone ∷ s) t = ap (λ (r : Bytes). ampersand ∷ r) (unlexed-append s t)

-- ---- names

is-name : (n : Bytes) → is_lettered n ≡ true → is_long n ≡ false → is_name name_limit n ≡ true
unfolding is_name is_long
is-name [] h l = absurd (false≢true h)
is-name (c ∷ s) h l = λ i.
    and_left (letter c) _ h i
    && (eq-eqb (run letter_or_digit s) (length s) (run-every letter_or_digit s (and_right (letter c) _ h)) i
    && le-leb (length (c ∷ s)) name_limit (ltb-false name_limit (length (c ∷ s)) l) i)

-- a symbol that is declared well does not start with SYS, and is not declared again
declares-behind : (b : Bytes → Bool) (s t : List Bytes) → declares_wrongly b (s ++ t) ≡ false → declares_wrongly b t ≡ false
unfolding declares_wrongly
declares-behind b [] t h = h
declares-behind b (n ∷ s) t h =
    declares-behind b s t (or_right (any (same n) (s ++ t)) _ (or_right (b n) _ (or_right (starts_with (bytes "SYS") n) _ h)))

declares-first : (b : Bytes → Bool) (n : Bytes) (ns : List Bytes) → declares_wrongly b (n ∷ ns) ≡ false → (starts_with (bytes "SYS") n ≡ false) × (any (same n) ns ≡ false)
unfolding declares_wrongly
declares-first b n ns h =
    (or_left (starts_with (bytes "SYS") n) _ h, or_left (any (same n) ns) _ (or_right (b n) _ (or_right (starts_with (bytes "SYS") n) _ h)))

module _ (n : Bytes) where
  abbrev is_it : (Bytes × Bytes) → Bool
  is_it j = same n j.0

  one-other : (s : List Bytes) (d : Bytes) → any (same n) s ≡ false → any is_it (with_default s d) ≡ false
  unfolding any with_default
  one-other [] d h = refl
  one-other (m ∷ s) d h = λ i. or_left (same n m) _ h i || false

  no-such-keyword : (ps : List Lexes) → any (same n) (start_symbols ps) ≡ false → any is_it (keyword_names ps) ≡ false
  unfolding any start_symbols keyword_names
  no-such-keyword [] h = refl
  no-such-keyword (p ∷ ps) h =
      let r = none-in-parts (same n) (start_symbol p) (start_symbols ps) h in
      let d = unlexed (drop (suc (equals_at p)) p) in
      none-in-both is_it (choose (has_equals p) (with_default (start_symbol p) d) []) (keyword_names ps)
      (either (λ (s : List (Bytes × Bytes)). any is_it s ≡ false) (has_equals p) {x = with_default (start_symbol p) d} {y = []} (λ e. one-other (start_symbol p) d r.0) (λ e. refl))
      (no-such-keyword ps r.1)

-- ---- the keywords of an operand

module _ (s : Bytes) (w : is_ill_written s ≡ false) where
  part-keyword : (p : Lexes) (k : Keyworded p) → Piece false (lexed true s) p → is_long k.name ≡ false → is_default k.default ≡ true
      → starts_with (bytes "SYS") k.name ≡ false → is_keyword (k.name, unlexed k.default) ≡ true
  unfolding is_keyword is_default every
  part-keyword p k r short good sys =
      let n = k.name in
      let d = k.default in
      let q = subst (λ (x : Lexes). Piece false (lexed true s) x) k.are r in
      let z = q.pre ++ (ref n ∷ (byte equals ∷ [])) in
      let named = is-name n (and_left (is_lettered n) _ (every-part is_lettered_in false (lexed true s) _ q (lexed-lettered true s))) short in
      let whole : lexed true s ≡ z ++ (d ++ q.post) = q.whole ∙ sym (append_assoc q.pre (ref n ∷ (byte equals ∷ [])) (d ++ q.post)) in
      let bs : s ≡ unlexed z ++ (unlexed d ++ unlexed q.post) =
      sym (lexed-back true s) ∙ (ap unlexed whole ∙ (unlexed-append z (d ++ q.post) ∙ ap (λ (t : Bytes). unlexed z ++ t) (unlexed-append d q.post))) in
      let well = written-front (unlexed d) (unlexed q.post) (written_behind (unlexed z) _ (ap is_ill_written (sym bs) ∙ w)) in
      let again = ap is_default (default-again s n d q (and_left (every is_plain d) _ good)) ∙ good in
      λ i. named i && (not (sys i) && (not (well i) && again i))

  -- both facts, part by part
  keywords-good : (b : Bool) (ps : List Lexes) → All (Piece false (lexed true s)) ps → are_good_parts b ps ≡ true → any (λ part. has_long_symbol (before_equals part)) ps ≡ false
      → declares_wrongly (λ n. false) (start_symbols ps) ≡ false
      → (every is_keyword (keyword_names ps) ≡ true) × (are_distinct_keywords (keyword_names ps) ≡ true)
  unfolding are_good_parts any every are_distinct_keywords start_symbols keyword_names
  keywords-good b [] st g l d = (refl, refl)
  keywords-good b (p ∷ ps) st g l d =
      let gp = and_left (is_good_part p) _ g in
      let r = keywords-good (b || has_equals p) ps st.1 (and_right (has_equals p || not b) _ (and_right (is_good_part p) _ g)) (or_right (has_long_symbol (before_equals p)) _ l)
      (declares-behind (λ n. false) (start_symbol p) (start_symbols ps) d) in
      by (has_equals p)
      (λ e.
      let k = part-split p (first-of-good p gp) e in
      let t = declares-first (λ n. false) k.name (start_symbols ps) (ap (λ (x : List Bytes). declares_wrongly (λ n. false) (x ++ start_symbols ps)) (sym (start_is p k)) ∙ d) in
      let q = part-keyword p k st.0 (name-short p k (or_left (has_long_symbol (before_equals p)) _ l)) (default-good p k gp e) t.0 in
      subst (λ (x : List (Bytes × Bytes)). (every is_keyword x ≡ true) × (are_distinct_keywords x ≡ true)) (sym (keyword-is p k ps e))
      (λ i. q i && r.0 i, λ i. not (no-such-keyword k.name ps t.1 i) && r.1 i))
      (λ e. subst (λ (x : List (Bytes × Bytes)). (every is_keyword x ≡ true) × (are_distinct_keywords x ≡ true)) (sym (no-keyword p ps e)) r)

keywords-of : (gs : List (Bytes × Set)) (x : Macro) → Proper x
    → (every is_keyword (deck_macro gs (reading x)).keywords ≡ true) × (are_distinct_keywords (deck_macro gs (reading x)).keywords ≡ true)
unfolding reading deck_macro names_in operand_parts
keywords-of gs x p =
    let f = fields_of x.prototype in
    let h = p.prototype-faultless in
    keywords-good f.operand (operand-written x.prototype h.written) false (operand_parts f) (parts-stand (lexed true f.operand)) (parts-good h) (none-long h)
    (declares-behind (λ n. false) (start_symbol (lexed false f.name)) (start_symbols (operand_parts f)) (declared-well h))

pub good-keywords : (library : Bytes) → verdict library ≡ accepted → Each library (λ m. every is_keyword m.keywords ≡ true)
good-keywords library e = each-macro library e (λ m. every is_keyword m.keywords ≡ true) (λ x p. (keywords-of _ x p).0)

pub distinct-keywords : (library : Bytes) → verdict library ≡ accepted → Each library (λ m. are_distinct_keywords m.keywords ≡ true)
distinct-keywords library e = each-macro library e (λ m. are_distinct_keywords m.keywords ≡ true) (λ x p. (keywords-of _ x p).1)
