-- A scan of an operand divides it as 01 says. Assumes nothing.
use Prim.Native.Nat.{ℕ, zero, suc, ◌+◌, ◌-◌, ◌≤◌, ◌<◌}
use native.Mathlib.Numerals.{add-one}
use native.Mathlib.Omega.{arith}
use native.Mathlib.Nat.{le_refl}
use mathlib.Core.Path.{◌≡◌, refl, ap, sym, ◌∙◌, subst}
use mathlib.Core.Bool.{Bool, true, false, ◌&&◌, not, true≢false}
use mathlib.Core.List.{List, [], ◌∷◌, ◌++◌, append-nil}
use mathlib.Core.Option.{Option, none, some}
use lib.Dec.{T, eqb}
use lib.IntN.{ℤ, pos, negsuc, nat_abs}
use lib.Signed.{lt_z, non_neg}
use mir.Syntax.{w32, w64}
use mir.Val.{SFits, Fits}
use mir.Facts.{Fits-nat_abs}
use lib.ListN.{length, get_or, take, drop, drop_of_length-le, length-append, length-drop}
use lib.Seq.{drop-cons, take-suc, take-length, get_or-drop, append_snoc, get_or-append_seam}
use borrow.Author.Tests.{ltb-true, not-false, eqb-true, eqb-false, eq-eqb, ne_eqb}
use Rattle.text.specs.Bytes.{Bytes, bytes}
use Rattle.rules.specs.Choice.{choose, on_first}
use Rattle.rules.specs.Lexemes.{space, apostrophe, opening, closing, comma, Lex, byte, mark, byte_of, field_start, is_mark, after, marked, Inside, outside, enters}
use Rattle.rules.specs.Values.{divided_in, entries_of, entry, number_of_entries, number_in, type_of}
use Rattle.rules.proofs.Choices.{by, chosen, passed_over, and_left}
use Rattle.fields.specs.declared.Seen.{Seen as State}
use Rattle.fields.specs.Seen.{before_of, inside_of, seen_after}
use Rattle.fields.proofs.Scan.{before-after, inside-after}
use Rattle.spans.specs.Spans.{part_of}
use Rattle.value_sublists.specs.declared.Passed.{Passed}
use Rattle.std.specs.Prelude.{Some, None}
use Rattle.std.specs.Prelude.{Option as Maybe}
use Rattle.std.specs.Borrow.{Bor}
use Rattle.value_sums.specs.Answers.{option_of}
use Rattle.value_sublists.specs.declared.Entries.{Entries}
use Rattle.value_sublists.specs.declared.Part.{Part}
use Rattle.value_sublists.specs.Entries.{edges, ended, passed_by, Entry, cut_in, cut_by, part_in}
use Rattle.value_sublists.specs.Entries.{part_of as part_found}

-- ---- one byte

abbrev lexeme : State → ℕ → Bytes → Lex Bytes
lexeme s c rest = choose (is_mark (before_of s) c rest) mark (byte c)

mark-apostrophe : (s : State) (c : ℕ) (rest : Bytes) → is_mark (before_of s) c rest ≡ true → eqb c apostrophe ≡ true
unfolding is_mark
mark-apostrophe s c rest h = and_left (eqb c apostrophe) _ h

plain_byte : (s : State) (c d : ℕ) (rest : Bytes) → eqb 0 d ≡ false → eqb apostrophe d ≡ false → eqb (byte_of (lexeme s c rest)) d ≡ eqb c d
unfolding byte_of
plain_byte s c d rest z a =
    by (is_mark (before_of s) c rest)
    (λ m. ap (λ (x : Lex Bytes). eqb (byte_of x) d) (chosen mark (byte c) m) ∙ (z ∙ sym (ap (λ k. eqb k d) (eqb-true c apostrophe (mark-apostrophe s c rest m)) ∙ a)))
    (λ m. ap (λ (x : Lex Bytes). eqb (byte_of x) d) (passed_over mark (byte c) m))

-- a byte at the edge of an entry, as the definition tests it
edge-is : (s : State) (c d : ℕ) (rest : Bytes) → eqb 0 d ≡ false → eqb apostrophe d ≡ false
    → (eqb (byte_of (lexeme s c rest)) d && (not (inside_of s).quoted && eqb (inside_of s).depth 1)) ≡ edges s c d
unfolding edges inside_of
edge-is s c d rest z a = (λ i. plain_byte s c d rest z a i && (not s.quoted && eqb s.depth 1)) ∙ sym (nested (eqb c d) (not s.quoted) (eqb s.depth 1))
  where
    nested : (a b d : Bool) → (a && b && d) ≡ (a && (b && d))
    nested true b d = refl
    nested false b d = refl

-- ---- the scan, by place

-- the entries from place i on, where the scan has seen s before it
unfoldable pub divided_from : Bytes → ℕ → State → Option (List Bytes)
divided_from l i s = divided_in (inside_of s) (marked true (before_of s) (drop i l)) (drop i l)

-- one more byte in front of the entries behind it
unfoldable pub on_divided : Bool → ℕ → Option (List Bytes) → Option (List Bytes)
on_divided divides c none = none
on_divided divides c (some entries) = some (choose divides ([] ∷ entries) (on_first c entries))

module _ (l : Bytes) (i : ℕ) (s : State) where
  pub divided-end : length l ≤ i → divided_from l i s ≡ none
  unfolding divided_from marked divided_in
  divided-end h = rw (drop_of_length-le l h)

  module _ (h : i < length l) where
    abbrev c : ℕ
    c = get_or l i 0

    abbrev rest : Bytes
    rest = drop (i + 1) l

    abbrev more : List (Lex Bytes)
    more = marked true (after true (before_of s) c rest) rest

    cut : drop i l ≡ c ∷ rest
    cut = rw (drop-cons l i 0 h, add-one i)

    abbrev ends : List (Lex Bytes) → Option (List Bytes)
    ends xs = elim xs [ [] ↦ some ([] ∷ []) | y ∷ ys ↦ none ]

    opened : divided_in (inside_of s) (marked true (before_of s) (c ∷ rest)) (c ∷ rest)
        ≡ choose (eqb (byte_of (lexeme s c rest)) closing && (not (inside_of s).quoted && eqb (inside_of s).depth 1)) (ends more)
        (on_divided (eqb (byte_of (lexeme s c rest)) comma && (not (inside_of s).quoted && eqb (inside_of s).depth 1)) c (divided_in (enters (inside_of s) (lexeme s c rest)) more rest))
    unfolding marked divided_in on_divided
    opened = go _ _ (divided_in (enters (inside_of s) (lexeme s c rest)) more rest)
      where
        go : (b d : Bool) (o : Option (List Bytes)) → choose b (ends more) (elim o [ none ↦ none | some entries ↦ some (choose d ([] ∷ entries) (on_first c entries)) ]) ≡ choose b (ends more) (on_divided d c o)
        go b d none = refl
        go b d (some entries) = refl

    stepped : divided_from l i s ≡ choose (edges s c closing) (ends more) (on_divided (edges s c comma) c (divided_from l (i + 1) (seen_after s c (get_or l (i + 1) 0))))
    unfolding divided_from
    stepped =
        ap (λ z. divided_in (inside_of s) (marked true (before_of s) z) z) cut ∙ opened
        ∙ (λ j. choose (edge-is s c closing rest refl refl j) (ends more) (on_divided (edge-is s c comma rest refl refl j) c (divided_in (sym (inside-after l (i + 1) s c) j) (marked true (sym (before-after l (i + 1) s c) j) rest) rest)))

    pub divided-on : edges s c closing ≡ false → divided_from l i s ≡ on_divided (edges s c comma) c (divided_from l (i + 1) (seen_after s c (get_or l (i + 1) 0)))
    divided-on e = stepped ∙ passed_over _ _ e

    pub divided-last : edges s c closing ≡ true → length l ≤ i + 1 → divided_from l i s ≡ some ([] ∷ [])
    unfolding marked
    divided-last e g = stepped ∙ chosen _ _ e ∙ ap (λ r. ends (marked true (after true (before_of s) c r) r)) (drop_of_length-le l g)

    pub divided-not : edges s c closing ≡ true → i + 1 < length l → divided_from l i s ≡ none
    unfolding marked
    divided-not e g = stepped ∙ chosen _ _ e ∙ ap (λ r. ends (marked true (after true (before_of s) c r) r)) (drop-cons l (i + 1) 0 g)

-- entries that stand are never none at all
is_cut : Option (List Bytes) → Bool
is_cut none = true
is_cut (some []) = false
is_cut (some (e ∷ es)) = true

cut-always : (i : Inside) (xs : List (Lex Bytes)) (s : Bytes) → is_cut (divided_in i xs s) ≡ true
unfolding divided_in on_first choose is_cut
cut-always i [] s = refl
cut-always i (x ∷ xs) [] = refl
cut-always i (x ∷ xs) (d ∷ s) = go (eqb (byte_of x) closing && (not i.quoted && eqb i.depth 1)) (eqb (byte_of x) comma && (not i.quoted && eqb i.depth 1)) xs (divided_in (enters i x) xs s)
  where
    go : (b e : Bool) (ys : List (Lex Bytes)) (o : Option (List Bytes))
        → is_cut (choose b (elim ys [ [] ↦ some ([] ∷ []) | y ∷ ys ↦ none ]) (elim o [ none ↦ none | some entries ↦ some (choose e ([] ∷ entries) (on_first d entries)) ])) ≡ true
    go true d [] o = refl
    go true d (y ∷ ys) o = refl
    go false d ys none = refl
    go false true ys (some entries) = refl
    go false false ys (some []) = refl
    go false false ys (some (e ∷ es)) = refl

divided-cut : (l : Bytes) (i : ℕ) (s : State) → is_cut (divided_from l i s) ≡ true
unfolding divided_from
divided-cut l i s = cut-always (inside_of s) (marked true (before_of s) (drop i l)) (drop i l)

-- ---- the entries so far, and those that follow

-- entries that have ended, bytes of the next, and the entries from here on
unfoldable pub joined_to : List Bytes → Bytes → Option (List Bytes) → Option (List Bytes)
joined_to done now none = none
joined_to done now (some []) = some (done ++ (now ∷ []))
joined_to done now (some (e ∷ es)) = some (done ++ ((now ++ e) ∷ es))

join-byte : (done : List Bytes) (now : Bytes) (c : ℕ) (o : Option (List Bytes)) → joined_to done now (on_divided false c o) ≡ joined_to done (now ++ (c ∷ [])) o
unfolding joined_to on_divided on_first choose
join-byte done now c none = refl
join-byte done now c (some []) = refl
join-byte done now c (some (e ∷ es)) = ap (λ r. some (done ++ (r ∷ es))) (sym (append_snoc now c e))

join-comma : (done : List Bytes) (now : Bytes) (c : ℕ) (o : Option (List Bytes)) → is_cut o ≡ true → joined_to done now (on_divided true c o) ≡ joined_to (done ++ (now ∷ [])) [] o
unfolding joined_to on_divided choose is_cut
join-comma done now c none h = refl
join-comma done now c (some []) h = absurd (true≢false (sym h))
join-comma done now c (some (e ∷ es)) h = ap some (ap (λ r. done ++ (r ∷ (e ∷ es))) (append-nil now) ∙ sym (append_snoc done now (e ∷ es)))

-- the bytes of an entry, one more
part-grows : (l : Bytes) (at i : ℕ) → at ≤ i → i < length l → part_of l at (i - at) ++ (get_or l i 0 ∷ []) ≡ part_of l at (i + 1 - at)
unfolding part_of
part-grows l at i h k =
    let n : i + 1 - at ≡ suc (i - at) = omega arith in
    let e : at + (i - at) ≡ i = omega arith in
    let m : i - at < length l - at = omega arith in
    sym (ap (λ n. take n (drop at l)) n ∙ take-suc (drop at l) (i - at) 0 (rw (length-drop at l) m) ∙ ap (λ b. take (i - at) (drop at l) ++ (b ∷ [])) (get_or-drop at l (i - at) 0 ∙ ap (λ j. get_or l j 0) e))

-- ---- the loop of the code

-- what has passed before place i: `done` are the entries that have ended
pub record Scanning (l : Bytes) (n i : ℕ) (seen : State) (p : Passed) : Type 0 where
  pub done : List Bytes
  pub counted : length done ≡ p.count
  pub whole : entries_of l ≡ joined_to done (part_of l p.start (i - p.start)) (divided_from l i seen)
  pub found : get_or done n [] ≡ part_of l p.at p.size
  pub begun : p.start ≤ i
  pub few : p.count ≤ i
  pub shallow : seen.depth ≤ i

-- the answer behind the last entry
abbrev pub closed_at : Bytes → Passed → Option Entry
closed_at l q = some (record { count = q.count; wanted = part_of l q.at q.size })

pub cut-none : (l : Bytes) → cut_in l None ≡ none
unfolding cut_in
cut-none l = refl

pub cut-some : (l : Bytes) (p : Passed) → cut_in l (Some (record { count = p.count; wanted = record { at = p.at; size = p.size } })) ≡ closed_at l p
unfolding cut_in
cut-some l p = refl

pub part-within : (s : Bytes) (at n : ℕ) → length (part_of s at n) ≤ length s
unfolding part_of
part-within s at n = go n at s
  where
    taken : (n : ℕ) (s : Bytes) → length (take n s) ≤ length s
    taken zero s = omega arith
    taken (suc n) [] = omega arith
    taken (suc n) (b ∷ s) = let less = taken n s in omega arith

    go : (n at : ℕ) (s : Bytes) → length (take n (drop at s)) ≤ length s
    go n zero s = taken n s
    go n (suc at) [] = taken n []
    go n (suc at) (b ∷ s) = let less = go n at s in omega arith

-- the entry that ends at place i is `now`
module _ (l : Bytes) (n i : ℕ) (done : List Bytes) (p : Passed) (counted : length done ≡ p.count) (found : get_or done n [] ≡ part_of l p.at p.size) where
  abbrev next : Passed
  next = ended n i p

  abbrev all : List Bytes
  all = done ++ (part_of l p.start (i - p.start) ∷ [])

  end-counted : length all ≡ next.count
  unfolding ended
  end-counted = length-append done _ ∙ ap (λ k. k + 1) counted ∙ by (eqb p.count n) (λ e. sym (ap (λ (q : Passed). q.count) (chosen _ _ e))) (λ e. sym (ap (λ (q : Passed). q.count) (passed_over _ _ e)))

  end-found : get_or all n [] ≡ part_of l next.at next.size
  unfolding ended
  end-found = by (eqb p.count n)
      (λ e. ap (λ k. get_or all k []) (sym (counted ∙ eqb-true _ _ e)) ∙ get_or-append_seam done _ [] [] ∙ sym (ap (λ (q : Passed). part_of l q.at q.size) (chosen _ _ e)))
      (λ e. other done n _ (λ h. eqb-false _ _ e (sym counted ∙ h)) ∙ found ∙ sym (ap (λ (q : Passed). part_of l q.at q.size) (passed_over _ _ e)))
    where
      other : (done : List Bytes) (n : ℕ) (b : Bytes) → (length done ≡ n → ⊥) → get_or (done ++ (b ∷ [])) n [] ≡ get_or done n []
      other [] zero b h = absurd (h refl)
      other [] (suc n) b h = refl
      other (d ∷ done) zero b h = refl
      other (d ∷ done) (suc n) b h = other done n b (λ e. h (ap suc e))

  end-start : next.start ≡ i + 1
  unfolding ended
  end-start = by (eqb p.count n) (λ e. ap (λ (q : Passed). q.start) (chosen _ _ e)) (λ e. ap (λ (q : Passed). q.start) (passed_over _ _ e))

module _ (l : Bytes) (n i : ℕ) (seen : State) (p : Passed) (inv : Scanning l n i seen p) (inside : i < length l) where
  abbrev b : ℕ
  b = get_or l i 0

  abbrev seen' : State
  seen' = seen_after seen b (get_or l (i + 1) 0)

  -- the parenthesis that closes the operand, and one behind which more stands
  pub scan-last : edges seen b closing ≡ true → length l ≤ i + 1 → closed_at l (passed_by n i true p) ≡ cut_by n (entries_of l)
  unfolding passed_by choose cut_by joined_to
  scan-last e g =
      let now = part_of l p.start (i - p.start) in
      let all : entries_of l ≡ some (inv.done ++ (now ∷ [])) = inv.whole ∙ ap (joined_to inv.done now) (divided-last l i seen inside e g) ∙ ap (λ r. some (inv.done ++ (r ∷ []))) (append-nil now) in
      sym (ap (cut_by n) all ∙ (λ j. some (record { count = end-counted l n i inv.done p inv.counted inv.found j; wanted = end-found l n i inv.done p inv.counted inv.found j })))

  pub scan-not : edges seen b closing ≡ true → i + 1 < length l → none ≡ cut_by n (entries_of l)
  unfolding cut_by joined_to
  scan-not e g = sym (ap (cut_by n) (inv.whole ∙ ap (joined_to inv.done _) (divided-not l i seen inside e g)))

  -- one byte further
  pub scan-on : edges seen b closing ≡ false → (d : Bool) → edges seen b comma ≡ d → seen'.depth ≤ i + 1 → Scanning l n (i + 1) seen' (passed_by n i d p)
  unfolding passed_by choose part_of
  scan-on e true f g = record {
    done = inv.done ++ (part_of l p.start (i - p.start) ∷ []);
    counted = end-counted l n i inv.done p inv.counted inv.found;
    whole = inv.whole ∙ ap (joined_to inv.done _) (divided-on l i seen inside e ∙ ap (λ d. on_divided d b (divided_from l (i + 1) seen')) f)
        ∙ join-comma inv.done _ b _ (divided-cut l (i + 1) seen')
        ∙ ap (λ r. joined_to (inv.done ++ (part_of l p.start (i - p.start) ∷ [])) r (divided_from l (i + 1) seen')) (sym (none_yet (ended n i p).start (end-start l n i inv.done p inv.counted inv.found)));
    found = end-found l n i inv.done p inv.counted inv.found;
    begun = rw (end-start l n i inv.done p inv.counted inv.found) (le_refl (i + 1));
    few = let k = end-counted l n i inv.done p inv.counted inv.found in let m = length-append inv.done (part_of l p.start (i - p.start) ∷ []) in let a = inv.counted in let o = inv.few in omega arith;
    shallow = g;
  }
    where
      none_yet : (start : ℕ) → start ≡ i + 1 → part_of l start (i + 1 - start) ≡ []
      none_yet start h = let z : i + 1 - start ≡ 0 = omega arith in ap (λ k. take k (drop start l)) z
  scan-on e false f g = record {
    done = inv.done;
    counted = inv.counted;
    whole = inv.whole ∙ ap (joined_to inv.done _) (divided-on l i seen inside e ∙ ap (λ d. on_divided d b (divided_from l (i + 1) seen')) f)
        ∙ join-byte inv.done _ b _ ∙ ap (λ r. joined_to inv.done r (divided_from l (i + 1) seen')) (part-grows l p.start i inv.begun inside);
    found = inv.found;
    begun = let h = inv.begun in omega arith;
    few = let h = inv.few in omega arith;
    shallow = g;
  }

  -- the same, by what the code has
  pub scan-next : edges seen b closing ≡ false → {d : Bool} {next : ℕ} {seen'' : State} {p'' : Passed} → d ≡ edges seen b comma → next ≡ get_or l (i + 1) 0 → seen'' ≡ seen_after seen b next
      → seen''.depth ≤ seen.depth + 1 → p'' ≡ passed_by n i d p → Scanning l n (i + 1) seen'' p''
  scan-next e {d} {next} {seen''} {p''} f g h k m =
      let same : seen'' ≡ seen' = h ∙ ap (seen_after seen b) g in
      let low = inv.shallow in
      let few : seen''.depth ≤ i + 1 = omega arith in
      subst (λ q. Scanning l n (i + 1) seen'' q) (sym m) (subst (λ t. Scanning l n (i + 1) t (passed_by n i d p)) (sym same) (scan-on e d (sym f) (subst (λ t. t.depth ≤ i + 1) same few)))

-- an end before the parentheses are closed
pub scan-ends : (l : Bytes) (n i : ℕ) (seen : State) (p : Passed) → Scanning l n i seen p → length l ≤ i → none ≡ cut_by n (entries_of l)
unfolding cut_by joined_to
scan-ends l n i seen p inv h = sym (ap (cut_by n) (inv.whole ∙ ap (joined_to inv.done _) (divided-end l i seen h)))

-- ---- the start

abbrev pub first_seen : State
first_seen = record { second = space; first = opening; quoted = false; depth = 1 }

abbrev pub none_passed : Passed
none_passed = record { count = 0; start = 1; at = 0; size = 0 }

join-none : (o : Option (List Bytes)) → is_cut o ≡ true → o ≡ joined_to [] [] o
unfolding joined_to is_cut
join-none none h = refl
join-none (some []) h = absurd (true≢false (sym h))
join-none (some (e ∷ es)) h = refl

opened-first : (l : Bytes) → entries_of (opening ∷ l) ≡ divided_from (opening ∷ l) 1 first_seen
unfolding entries_of divided_from marked is_mark after field_start enters outside byte_of inside_of before_of choose
opened-first l = refl

pub scan-starts : (l : Bytes) (n : ℕ) → get_or l 0 0 ≡ opening → Scanning l n 1 first_seen none_passed
unfolding part_of
scan-starts [] n h = absurd (omega arith)
scan-starts (c ∷ l) n h = subst (λ c. Scanning (c ∷ l) n 1 first_seen none_passed) (sym h) (record {
  done = [];
  counted = refl;
  whole = opened-first l ∙ join-none _ (divided-cut (opening ∷ l) 1 first_seen);
  found = refl;
  begun = le_refl 1;
  few = omega arith;
  shallow = le_refl 1;
})

pub not_opened : (l : Bytes) (n : ℕ) → (get_or l 0 0 ≡ opening → ⊥) → none ≡ cut_by n (entries_of l)
unfolding cut_by entries_of
not_opened [] n h = refl
not_opened (c ∷ l) n h = sym (ap (cut_by n) (passed_over _ _ (ne_eqb c opening h)))

-- ---- one entry

pub stays : (n i : ℕ) (p : Passed) (b : Bool) → not b ≡ true → p ≡ passed_by n i b p
unfolding passed_by choose
stays n i p true h = absurd (true≢false (sym h))
stays n i p false h = refl

module _ (n i : ℕ) (p : Passed) (b : Bool) (h : not b ≡ false) where
  ends-here : passed_by n i b p ≡ ended n i p
  unfolding passed_by
  ends-here = chosen _ _ (not-false b h)

  pub wanted-ends : p.count ≡ n → record { count = p.count + 1; start = i + 1; at = p.start; size = i - p.start } ≡ passed_by n i b p
  unfolding ended
  wanted-ends e = sym (ends-here ∙ chosen _ _ (eq-eqb _ _ e))

  pub other-ends : (p.count ≡ n → ⊥) → record { count = p.count + 1; start = i + 1; at = p.at; size = p.size } ≡ passed_by n i b p
  unfolding ended
  other-ends e = sym (ends-here ∙ passed_over _ _ (ne_eqb _ _ e))

-- ---- the number of entries, and one of them

count_of : Option Entry → ℕ
count_of none = 1
count_of (some e) = e.count

counted-by : (c : ℕ) (l : Bytes) → count_of (cut_by 0 (entries_of (c ∷ l))) ≡ number_of_entries (c ∷ l)
unfolding cut_by number_of_entries count_of
counted-by c l = go (entries_of (c ∷ l))
  where
    go : (o : Option (List Bytes)) → count_of (cut_by 0 o) ≡ elim o [ none ↦ 1 | some entries ↦ length entries ]
    go none = refl
    go (some entries) = refl

pub count-empty : (l : Bytes) → length l ≡ 0 → 0 ≡ number_of_entries l
unfolding number_of_entries
count-empty [] h = refl
count-empty (c ∷ l) h = absurd (omega arith)

counted : (l : Bytes) (o : Option Entry) → (length l ≡ 0 → ⊥) → o ≡ cut_by 0 (entries_of l) → count_of o ≡ number_of_entries l
counted [] o n e = absurd (n refl)
counted (c ∷ l) o n e = ap count_of e ∙ counted-by c l

module _ (l : Bytes) (r : Maybe Entries) (h : cut_in l r ≡ cut_by 0 (entries_of l)) (some_byte : length l ≡ 0 → ⊥) where
  by_answer : count_of (cut_in l r) ≡ number_of_entries l
  by_answer = counted l (cut_in l r) some_byte h

  pub count-entries : {e : Entries} → r ≡ Some e → e.count ≡ number_of_entries l
  unfolding count_of cut_in
  count-entries e = sym (ap (λ r. count_of (cut_in l r)) e) ∙ by_answer

  pub count-whole : r ≡ None → 1 ≡ number_of_entries l
  unfolding count_of cut_in
  count-whole e = sym (ap (λ r. count_of (cut_in l r)) e) ∙ by_answer

-- the wanted entry; of an operand that is no sublist, the first is all of it
wanted_of : Bytes → ℕ → Option Entry → Bytes
wanted_of l n none = get_or (l ∷ []) n []
wanted_of l n (some e) = e.wanted

wanted_by : (l : Bytes) (n : ℕ) → some (wanted_of l n (cut_by n (entries_of l))) ≡ entry l (pos (suc n))
unfolding cut_by entry wanted_of
wanted_by l n = go (entries_of l)
  where
    go : (o : Option (List Bytes)) → some (wanted_of l n (cut_by n o)) ≡ some (elim o [ none ↦ get_or (l ∷ []) n [] | some entries ↦ get_or entries n [] ])
    go none = refl
    go (some entries) = refl

module _ (l : Bytes) (n : ℕ) (r : Maybe Entries) (h : cut_in l r ≡ cut_by n (entries_of l)) where
  pub entry-some : {e : Entries} → r ≡ Some e → part_in l (Some e.wanted) ≡ entry l (pos (suc n))
  unfolding part_in cut_in wanted_of
  entry-some e = sym (ap (λ r. some (wanted_of l n (cut_in l r))) e) ∙ ap (λ o. some (wanted_of l n o)) h ∙ wanted_by l n

  none-cut : r ≡ None → some (get_or (l ∷ []) n []) ≡ entry l (pos (suc n))
  unfolding cut_in wanted_of
  none-cut e = sym (ap (λ r. some (wanted_of l n (cut_in l r))) e) ∙ ap (λ o. some (wanted_of l n o)) h ∙ wanted_by l n

  pub entry-all : r ≡ None → n ≡ 0 → part_in l (Some (record { at = 0; size = length l })) ≡ entry l (pos (suc n))
  unfolding part_in part_of
  entry-all e z = ap some (take-length l ∙ sym (ap (λ n. get_or (l ∷ []) n []) z)) ∙ none-cut e

  pub entry_past : r ≡ None → (n ≡ 0 → ⊥) → part_in l (Some (record { at = 0; size = 0 })) ≡ entry l (pos (suc n))
  unfolding part_in part_of
  entry_past e z = go n z ∙ none-cut e
    where
      go : (n : ℕ) → (n ≡ 0 → ⊥) → some [] ≡ some (get_or (l ∷ []) n [])
      go zero z = absurd (z refl)
      go (suc n) z = refl

-- the bytes of the part that was found
module _ (l : Bytes) {o : Maybe Part} {x : Option Bytes} (h : part_in l o ≡ x) where
  pub found-none : o ≡ None → part_found None ≡ x
  unfolding part_found part_in
  found-none e = sym (ap (part_in l) e) ∙ h

  pub found-some : {p : Part} (w : Bor Bytes) → o ≡ Some p → w.now ≡ part_of l p.at p.size → part_found (Some w) ≡ x
  unfolding part_found part_in
  found-some w e k = ap some k ∙ sym (ap (part_in l) e) ∙ h

-- numbers of entries: below 1 there is none
pub entry-none : (l : Bytes) (z : ℤ) → lt_z z (pos 1) ≡ true → part_in l None ≡ entry l z
unfolding part_in entry
entry-none l (pos zero) h = refl
entry-none l (pos (suc n)) h = let less = ltb-true (suc n) 1 h in absurd (omega arith)
entry-none l (negsuc n) h = refl

pub above : (z : ℤ) → lt_z z (pos 1) ≡ false → pos (suc (nat_abs z - 1)) ≡ z
above (pos zero) h = absurd (true≢false h)
above (pos (suc n)) h = ap (λ k. pos (suc k)) (omega arith)
above (negsuc n) h = absurd (true≢false h)

pub above-size : (z : ℤ) → lt_z z (pos 1) ≡ false → 1 ≤ nat_abs z
above-size (pos zero) h = absurd (true≢false h)
above-size (pos (suc n)) h = omega arith
above-size (negsuc n) h = absurd (true≢false h)

pub above-fits : (z : ℤ) → SFits w32 z → lt_z z (pos 1) ≡ false → T (non_neg z) × Fits w64 (nat_abs z)
above-fits (pos n) f h = (tt, Fits-nat_abs tt f)
above-fits (negsuc n) f h = absurd (true≢false h)

-- ---- types

pub type-empty : (l : Bytes) → length l ≡ 0 → 79 ∷ [] ≡ type_of l
unfolding type_of
type-empty [] h = refl
type-empty (c ∷ l) h = absurd (omega arith)

module _ (l : Bytes) (some_byte : length l ≡ 0 → ⊥) (w : Maybe ℤ) (h : option_of w ≡ number_in l) where
  pub type-number : {z : ℤ} → w ≡ Some z → 78 ∷ [] ≡ type_of l
  unfolding type_of option_of
  type-number {z} e = go l some_byte (sym h ∙ ap option_of e)
    where
      go : (l : Bytes) → (length l ≡ 0 → ⊥) → number_in l ≡ some z → 78 ∷ [] ≡ type_of l
      go [] n e = absurd (n refl)
      go (c ∷ l) n e = sym (ap (λ o. elim o [ none ↦ bytes "U" | some z ↦ bytes "N" ]) e)

  pub type-other : w ≡ None → 85 ∷ [] ≡ type_of l
  unfolding type_of option_of
  type-other e = go l some_byte (sym h ∙ ap option_of e)
    where
      go : (l : Bytes) → (length l ≡ 0 → ⊥) → number_in l ≡ none → 85 ∷ [] ≡ type_of l
      go [] n e = absurd (n refl)
      go (c ∷ l) n e = sym (ap (λ o. elim o [ none ↦ bytes "U" | some z ↦ bytes "N" ]) e)

-- ---- there are no more entries than bytes

size_of : Option (List Bytes) → ℕ
size_of none = 0
size_of (some l) = length l

divided-few : (i : Inside) (xs : List (Lex Bytes)) (s : Bytes) → size_of (divided_in i xs s) ≤ length s
unfolding divided_in on_first choose size_of
divided-few i [] s = omega arith
divided-few i (x ∷ xs) [] = omega arith
divided-few i (x ∷ xs) (d ∷ s) = go (eqb (byte_of x) closing && (not i.quoted && eqb i.depth 1)) (eqb (byte_of x) comma && (not i.quoted && eqb i.depth 1)) xs (divided_in (enters i x) xs s) (divided-few (enters i x) xs s)
  where
    go : (b e : Bool) (ys : List (Lex Bytes)) (o : Option (List Bytes)) → size_of o ≤ length s
        → size_of (choose b (elim ys [ [] ↦ some ([] ∷ []) | y ∷ ys ↦ none ]) (elim o [ none ↦ none | some entries ↦ some (choose e ([] ∷ entries) (on_first d entries)) ])) ≤ suc (length s)
    go true e [] o h = omega arith
    go true e (y ∷ ys) o h = omega arith
    go false e ys none h = omega arith
    go false true ys (some entries) h = omega arith
    go false false ys (some []) h = omega arith
    go false false ys (some (e ∷ es)) h = omega arith

pub entries-few : (s : Bytes) → number_of_entries s ≤ length s
unfolding number_of_entries entries_of marked size_of choose
entries-few [] = omega arith
entries-few (b ∷ s) = go (eqb b opening) _ (divided-few (enters outside (choose (is_mark field_start b s) mark (byte b))) (marked true (after true field_start b s) s) s)
  where
    go : (t : Bool) (o : Option (List Bytes)) → size_of o ≤ length s → elim (choose t o none) [ none ↦ 1 | some entries ↦ length entries ] ≤ suc (length s)
    go true none h = omega arith
    go true (some l) h = omega arith
    go false o h = omega arith
