-- A macro of an accepted library, with all that is known of it.
use Prim.Native.Nat.{ℕ, ◌+◌, ◌≤◌, ◌<◌}
use native.Mathlib.Omega.{arith}
use mathlib.Core.Path.{◌≡◌, refl, sym, subst}
use mathlib.Core.List.{List, [], ◌∷◌, ◌++◌}
use lib.ListN.{length, get_or, length-append}
use Rattle.text.specs.Bytes.{Bytes}
use Rattle.rules.specs.Limits.{line_limit, library_limit, parameter_limit, local_limit}
use Rattle.rules.specs.Fields.{lines_of}
use Rattle.rules.specs.Library.{Macro, outer, macros_from, operation_of, Names, names_in, firsts, parameter_names}
use Rattle.rules.specs.ByLines.{Reading, reading, no_reading, own_names}
use Rattle.rules.specs.Faults.{accepted, verdict}
use Rattle.rules.proofs.Logic.{All, all_map, all-at}
use Rattle.rules.proofs.Symbols.{length-firsts}
use Rattle.rules.proofs.Accepted.{Sound, Body, Known, all_sound, readings}
use Rattle.rules.proofs.ReadLines.{InSet, statement-held, written_in}
use Rattle.rules.proofs.Within.{Prototype, bodies, all-prototypes, few-body-lines, few-parameters, few-locals}
use Rattle.rules.proofs.Keywords.{keyword_bytes, GoodKeyword, prototype-keywords}

pub record Taken (r : Reading) : Type 0 where
  pub prototype : Bytes
  pub title-is : r.title ≡ operation_of prototype
  pub names-are : r.names ≡ names_in prototype r.body
  pub is-sound : Body prototype [] r.body
  pub stands : Prototype prototype
  pub short : length r.body ≤ library_limit

all_both : {A : Type 0} (P Q : A → Type 0) (l : List A) → All P l → All Q l → All (λ a. P a × Q a) l
all_both P Q [] h k = tt
all_both P Q (a ∷ l) h k = ((h.0, k.0), all_both P Q l h.1 k.1)

-- no body is longer than all of them
bodies-short : (n : ℕ) (ms : List Macro) → bodies ms ≤ n → All (λ m. length m.body ≤ n) ms
bodies-short n [] h = tt
bodies-short n (m ∷ ms) h = (omega arith, bodies-short n ms (omega arith))

pub all-taken : (library : Bytes) → verdict library ≡ accepted → All Taken (readings library)
unfolding reading
all-taken library e =
    let ms = macros_from outer (lines_of library) in
    let P : Macro → Type 0 = λ m. Prototype m.prototype in
    let S : Macro → Type 0 = λ m. length m.body ≤ library_limit in
    all_map (λ m. Sound m × (P m × S m)) Taken reading
    (λ m h. record { prototype = m.prototype; title-is = refl; names-are = refl; is-sound = h.0; stands = h.1.0; short = h.1.1 }) ms
    (all_both Sound (λ m. P m × S m) ms (all_sound library e)
    (all_both P S ms (all-prototypes library e) (bodies-short library_limit ms (few-body-lines library e))))

pub taken_at : (library : Bytes) → verdict library ≡ accepted → (k : ℕ) → k < length (readings library) → Taken (get_or (readings library) k no_reading)
taken_at library e k h = all-at Taken (readings library) no_reading k (all-taken library e) h

module _ {r : Reading} (a : Taken r) where
  pub is_known : Known r
  is_known = record { prototype = a.prototype; names-are = a.names-are; is-sound = a.is-sound }

  prototype-written : (length a.prototype ≤ line_limit) × InSet a.prototype
  prototype-written = written_in a.prototype a.stands.is-faultless.written

  pub title-written : (length r.title ≤ line_limit) × InSet r.title
  unfolding operation_of
  title-written =
      let w = prototype-written in
      let h = statement-held a.prototype w.1 in
      subst (λ (t : Bytes). (length t ≤ line_limit) × InSet t) (sym a.title-is) (omega (arith, h.total, w.0), h.operation-in)

  pub own-parameters : length (parameter_names r.names) ≤ parameter_limit
  own-parameters = subst (λ (n : Names). length (parameter_names n) ≤ parameter_limit) (sym a.names-are) (few-parameters a.prototype r.body a.stands)

  pub own-locals : length r.names.locals ≤ local_limit
  own-locals = subst (λ (n : Names). length n.locals ≤ local_limit) (sym a.names-are) (few-locals a.prototype r.body a.is-sound)

  -- all of a level's own names
  pub own-names : length (own_names r.names) ≤ parameter_limit + local_limit
  unfolding own_names
  own-names = omega (
    arith,
    own-parameters,
    own-locals,
    length-append (parameter_names r.names) (firsts r.names.locals),
    length-firsts r.names.locals,
  )

  pub positionals-and-keywords : length r.names.positionals + length r.names.keywords ≤ parameter_limit
  unfolding parameter_names
  positionals-and-keywords =
      let n = r.names in
      omega (
        arith,
        own-parameters,
        length-append n.name (n.positionals ++ firsts n.keywords),
        length-append n.positionals (firsts n.keywords),
        length-firsts n.keywords,
      )

  pub own-keywords : (keyword_bytes r.names.keywords ≤ line_limit) × All GoodKeyword r.names.keywords
  unfolding names_in
  own-keywords =
      let w = prototype-written in
      let k = prototype-keywords a.prototype w.1 in
      subst (λ (n : Names). (keyword_bytes n.keywords ≤ line_limit) × All GoodKeyword n.keywords) (sym a.names-are) (omega (arith, k.0, w.0), k.1)
