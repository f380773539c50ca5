-- A run over an input, step by step. Assumes nothing.
use Rattle.std.proofs.Common.{◌≡◌, ℕ, ◌+◌, ◌*◌, ◌≤◌, ◌<◌, ◌++◌, ◌^◌, ◌-◌, [], append-nil, zero-le, length, drop, Option, None, Some, IfSome, refl, ap, ◌∙◌, subst, arith}
use Rattle.std.specs.Io.KnownBytes.{Keeps, Appends, prepend_known}
use Rattle.std.proofs.KnownBytes.{Appends-nil, Appends-trans, Keeps-refl, Keeps-trans}
use Rattle.text.specs.Bytes.{Bytes}
use Rattle.translate_batch.specs.Answering.{Answered, at_start, one_more, Stands, known_length, Moves, stays, answers, Steps, Answers}
use Rattle.translate_batch.specs.declared.Place.{Place}

-- after so many turns
pub record Runs (whole : Bytes) (turns room : ℕ) (o o' e e' : Option Bytes) (window : Bytes) (at used : ℕ) (unread : Option Bytes) : Type 0 where
  pub place : ℕ
  pub written : Bytes
  pub answered : Answered whole room place written
  pub stands : Stands whole place window at used unread
  pub on_output : Appends o o' written
  pub on_errors : Keeps e e'
  pub few : turns + (length (drop place whole) + known_length unread) ≤ 2 * length whole

module _ (whole : Bytes) (room : ℕ) (o e : Option Bytes) where
  pub starts : (window : Bytes) (unread : Option Bytes) → unread ≡ Some whole → Runs whole 0 room o o e e window 0 0 unread
  starts window unread p =
      let size = ap known_length p in
      record {
        place = 0;
        written = [];
        answered = at_start;
        stands = record { in_order = zero-le; in_window = zero-le; left = ap (prepend_known []) p };
        on_output = Appends-nil o;
        on_errors = Keeps-refl e;
        few = omega (arith, size);
      }

  goes : (o' o'' : Option Bytes) (place next : ℕ) (written : Bytes) → Answered whole room place written → Appends o o' written → Moves whole room o' o'' place next → (w : Bytes) × (Answered whole room next w × Appends o o'' w)
  goes o' o'' place next written a p (stays q) = (written, (a, subst (Appends o o'') (append-nil written) (Appends-trans o o' o'' written [] p q)))
  goes o' o'' place next written a p (answers found q) = (_, (one_more a found, Appends-trans o o' o'' written _ p q))

  keeps-appends : (a b c : Option Bytes) (s : Bytes) → Keeps a b → Appends b c s → Appends a c s
  keeps-appends None b c s p q = tt
  keeps-appends (Some x) None c s p q = absurd p
  keeps-appends (Some x) (Some y) None s p q = absurd q
  keeps-appends (Some x) (Some y) (Some z) s p q = q ∙ ap (λ l. l ++ s) p

  module _ (turns : ℕ) (o' e' o'' e'' : Option Bytes) (window window' : Bytes) (at used : ℕ) (unread unread' : Option Bytes) (r : Runs whole turns room o o' e e' window at used unread) where
    goes-on : (p : Place) → Steps whole r.place room unread o' e' window' unread' o'' e'' (Some p) → Runs whole (turns + 1) room o o'' e e'' window' p.at p.used unread'
    goes-on p s =
        let to = goes o' o'' r.place s.0 r.written r.answered r.on_output s.1.2 in
        let fewer = s.1.1 in
        let few = r.few in
        record {
          place = s.0;
          written = to.0;
          answered = to.1.0;
          stands = s.1.0;
          on_output = to.1.1;
          on_errors = Keeps-trans e e' e'' r.on_errors s.1.3;
          few = omega (arith, fewer, few);
        }

    ends : Steps whole r.place room unread o' e' window' unread' o'' e'' None → Answers whole (length window') room o o'' e e''
    ends s =
        record {
          written = r.written;
          place = r.place;
          answered = r.answered;
          stops = s.0;
          on_output = subst (Appends o o'') (append-nil r.written) (Appends-trans o o' o'' r.written [] r.on_output s.2);
          on_errors = keeps-appends e e' e'' _ r.on_errors s.1;
        }

    at-length : (size : ℕ) (left : Option Place) → size ≡ room → Steps whole r.place size unread o' e' window' unread' o'' e'' left → Steps whole r.place room unread o' e' window' unread' o'' e'' left
    at-length size left a s = subst (λ (n : ℕ). Steps whole r.place n unread o' e' window' unread' o'' e'' left) a s

    pub turn : (size : ℕ) (left : Option Place) (p : Place) → size ≡ room → left ≡ Some p → Steps whole r.place size unread o' e' window' unread' o'' e'' left → Runs whole (turns + 1) room o o'' e e'' window' p.at p.used unread'
    turn size left p a b s = goes-on p (subst (λ (l : Option Place). Steps whole r.place room unread o' e' window' unread' o'' e'' l) b (at-length size left a s))

    pub last : (size : ℕ) (left : Option Place) (wide : ℕ) → size ≡ room → left ≡ None → length window' ≡ wide → Steps whole r.place size unread o' e' window' unread' o'' e'' left → Answers whole wide room o o'' e e''
    last size left wide a b w s =
        subst (λ (n : ℕ). Answers whole n room o o'' e e'') w (ends (subst (λ (l : Option Place). Steps whole r.place room unread o' e' window' unread' o'' e'' l) b (at-length size left a s)))

  -- so many turns no run takes
  pub never : (turns : ℕ) (o' e' : Option Bytes) (window : Bytes) (at used : ℕ) (unread : Option Bytes) → Runs whole turns room o o' e e' window at used unread → length whole < 2 ^ 63 → 2 ^ 64 - 1 ≤ turns → ⊥
  never turns o' e' window at used unread r h l = let few = r.few in omega (arith, few)

pub if_some : {X : Type 0} (o : Option X) (P : X → Type 0) → ((x : X) → o ≡ Some x → P x) → IfSome o P
if_some None P f = tt
if_some (Some x) P f = f x refl
