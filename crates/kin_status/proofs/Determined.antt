-- What comes of a deed: it is refused for one cause; or it is allowed, prints one text, and leads to one state, of the same size and at a canonical instant.
use Rattle.std.proofs.Common.{◌≡◌, inl, inr, Bool, List, ℕ, Option, ◌∙◌, sym, ap, subst, slice_set, refl}
use Rattle.std.specs.Prelude.{unwrap_or}
use Rattle.kin_status.proofs.Vocabulary.{IsCanonical, IsEarlier, Quadratic, Shape, Plan, plan_of, Next, IsNext, block, leg, nothing, comes_at, Deed, asks, changes, goes_on, goes_to, IsAllowed, IsNamedRoot, IsRefused, LeadsTo, State, state_view, just_at, IsPassedText, Prints, Step, Refusal, one_refused_question, one_reply_line}
use Rattle.kin_status.proofs.NamedRoots.{one_named_root, named_root_of, has_root}
use Rattle.kin_script.proofs.Changes.{one_refused_change, one_change}
use Rattle.kin_status.proofs.Passing.{one_passed, one_next, one_told}

-- it goes to an instant which isn't before now
pub goes_allowed : (s : State) (upper : Bool) (p : Quadratic) (w : Shape) → IsNamedRoot upper p w → (IsEarlier (just_at w) s.moment → ⊥) → IsAllowed s (goes_to upper p)
goes_allowed s upper p w named later r (inl h) = has_root p.a p.b p.c w (named_root_of upper p w named) h.1
goes_allowed s upper p w named later r (inr h) = later (subst (λ (v : Shape). IsEarlier (just_at v) s.moment) (one_named_root upper p h.1.0 w h.1.1 named) h.1.2)

-- what comes next comes at a canonical instant
pub next_canonical : (s : State) (n : Next) → IsCanonical s.moment.at → IsNext (state_view s) n → IsCanonical (unwrap_or (comes_at n) s.moment).at
next_canonical s (block b) canonical is = is.next.canonical
next_canonical s (leg m) canonical is = is.canonical
next_canonical s nothing canonical is = canonical

-- the size stays, and every state of a run stands at a canonical instant
pub stays : (s : State) (d : Deed) (t : State) → IsCanonical s.moment.at → LeadsTo s d t → (t.size ≡ s.size) × IsCanonical t.moment.at
stays s (changes n c) t canonical e = rw e.2 (refl, canonical)
stays s (goes_to upper p) t canonical e = rw e.2 (refl, (named_root_of upper p e.0 e.1).canonical)
stays s goes_on t canonical e = rw e.2 (refl, next_canonical s e.0 canonical e.1)
stays s (asks q) t canonical e = rw e (refl, canonical)

-- at most one cause
pub one_cause : (s : State) (d : Deed) (r q : Refusal) → IsRefused s d r → IsRefused s d q → r ≡ q
one_cause s (changes n c) r q x y = one_refused_change s.moment (plan_of s.plans n) c r q x y
one_cause s (goes_to upper p) r q (inl x) (inl y) = x.0 ∙ sym y.0
one_cause s (goes_to upper p) r q (inl x) (inr y) = absurd (has_root p.a p.b p.c y.1.0 (named_root_of upper p y.1.0 y.1.1) x.1)
one_cause s (goes_to upper p) r q (inr x) (inl y) = absurd (has_root p.a p.b p.c x.1.0 (named_root_of upper p x.1.0 x.1.1) y.1)
one_cause s (goes_to upper p) r q (inr x) (inr y) = x.0 ∙ sym y.0
one_cause s goes_on r q x y = absurd x
one_cause s (asks k) r q x y = one_refused_question s k r q x y

-- what is so at the named root is so of one thing, where it is so of one at each instant
pub one_at_root : {A : Type 0} (upper : Bool) (p : Quadratic) (IsAt : Shape → A → Type 0) (x y : A) → ((w : Shape) → IsCanonical w → IsAt w x → IsAt w y → x ≡ y)
    → (w : Shape) × IsNamedRoot upper p w × IsAt w x → (w : Shape) × IsNamedRoot upper p w × IsAt w y → x ≡ y
one_at_root upper p IsAt x y only a b = only b.0 (named_root_of upper p b.0 b.1).canonical (subst (λ (w : Shape). IsAt w x) (one_named_root upper p a.0 b.0 a.1 b.1) a.2) b.2

-- one text
one_print : (s : State) (d : Deed) (x y : List ℕ) → IsCanonical s.moment.at → Prints s d x → Prints s d y → x ≡ y
one_print s (changes n c) x y canonical a b = a ∙ sym b
one_print s (goes_to upper p) x y canonical a b = one_at_root upper p (IsPassedText s.journal s) x y (λ w there. one_passed s.journal s w x y canonical there) a b
one_print s goes_on x y canonical a b = one_next s x y canonical a b
one_print s (asks q) x y canonical a b = one_reply_line s canonical q x y a b

-- one state
pub one_state : (s : State) (d : Deed) (t u : State) → IsCanonical s.moment.at → LeadsTo s d t → LeadsTo s d u → t ≡ u
one_state s (changes n c) t u canonical a b =
    a.2 ∙ ap (λ (next : Option Plan). record s { plans = slice_set s.plans n next }) (one_change s.moment (plan_of s.plans n) c a.0 b.0 canonical a.1 b.1) ∙ sym b.2
one_state s (goes_to upper p) t u canonical a b = one_at_root upper p (λ (w : Shape) (v : State). v ≡ record s { moment = just_at w }) t u (λ w there e f. e ∙ sym f) a b
one_state s goes_on t u canonical a b = one_told s (λ (n : Next). record s { moment = unwrap_or (comes_at n) s.moment }) t u canonical a b
one_state s (asks q) t u canonical a b = a ∙ sym b

pub one_step : (s : State) (d : Deed) (x y : List ℕ) (t u : State) → IsCanonical s.moment.at → Step s d x t → Step s d y u → (x ≡ y) × (t ≡ u)
one_step s d x y t u canonical p q = (one_print s d x y canonical p.prints q.prints, one_state s d t u canonical p.leads q.leads)
