-- What a printer has gained.
use Rattle.std.proofs.Common.{rules, arith, ◌≡◌, ℕ, ◌+◌, List, [], ◌++◌, length, take, Option, refl, sym, ap, ◌∙◌, subst, append_assoc, append-nil, drop, take-append-drop}
use Rattle.std.proofs.Math.Seq.{take-append-add}
use Rattle.kin_status.proofs.Vocabulary.{Appends, Appends-nil, Appends-trans, AppendsFront, BreaksOff, Gains, GainsSome, IsFront, LosesSome, Printer, Wrote, printer, Stop, Fault, NoMemory}

pub front_nil : (text : List ℕ) → IsFront [] text
front_nil text = record { more = text; joined = refl }

pub front_take : (k : ℕ) (text : List ℕ) → IsFront (take k text) text
front_take k text = record { more = drop k text; joined = sym (take-append-drop k text) }

-- a front of a front
pub front_through : (front middle text : List ℕ) → IsFront front middle → IsFront middle text → IsFront front text
front_through front middle text p q = search (rules, arith, p.joined, q.joined, append_assoc)

pub front_after : (so_far front rest : List ℕ) → IsFront front rest → IsFront (so_far ++ front) (so_far ++ rest)
front_after so_far front rest p = search (rules, arith, p.joined, append_assoc)

abbrev pub Bytes : Type 0
Bytes = Option (List ℕ)

pub gains_put : (held : Bytes) (gathered now text : List ℕ) → now ≡ gathered ++ text → Gains (printer held gathered) (printer held now) text
gains_put held gathered now text e = record { written = []; appended = Appends-nil held; joined = e }

pub gains_nothing : (p : Printer) → Gains p p []
gains_nothing p = gains_put p.held p.gathered p.gathered [] (sym (append-nil p.gathered))

gains_through : {p q r : Printer} {s t : List ℕ} → Gains p q s → Gains q r t → Gains p r (s ++ t)
gains_through {p} {q} {r} {s} {t} g h = record {
  written = g.written ++ h.written;
  appended = Appends-trans p.held q.held r.held g.written h.written g.appended h.appended;
  joined = append_assoc g.written h.written r.gathered ∙ ap (λ (w : List ℕ). g.written ++ w) h.joined ∙ sym (append_assoc g.written q.gathered t) ∙ ap (λ (w : List ℕ). w ++ t) g.joined ∙ append_assoc p.gathered s t;
}

module _ {p q : Printer} {P : List ℕ → Type 0} (g : GainsSome P p q) (Q : List ℕ → Type 0) where
  -- and then a text
  pub some_then : {r : Printer} {text : List ℕ} → Gains q r text → ((x : List ℕ) → P x → Q (x ++ text)) → GainsSome Q p r
  some_then h f = record { text = _; gained = gains_through g.gained h; is = f g.text g.is }

  -- and then a write failed
  pub some_lost : (r : Printer) (text : List ℕ) → AppendsFront q.held r.held (q.gathered ++ text) → ((x : List ℕ) → P x → Q (x ++ text)) → LosesSome Q p r
  some_lost r text h f = record {
    text = g.text ++ text;
    reached = (
      length g.gained.written + h.0,
      subst (Appends p.held r.held)
          (sym (take-append-add g.gained.written (q.gathered ++ text) h.0)
          ∙ ap (take (length g.gained.written + h.0)) (sym (append_assoc g.gained.written q.gathered text) ∙ ap (λ (w : List ℕ). w ++ text) g.gained.joined ∙ append_assoc p.gathered g.text text))
          (Appends-trans p.held q.held r.held g.gained.written (take h.0 (q.gathered ++ text)) g.gained.appended h.1),
    );
    is = f g.text g.is;
  }

  -- and then the run was broken off
  pub some_broke : (stop : Stop) (r : Printer) (R : List ℕ → Type 0) → BreaksOff R stop q r → ((x part : List ℕ) → P x → R part → Q (x ++ part)) → BreaksOff Q stop p r
  some_broke NoMemory r R b f = some_then b.gained (λ x is. f x b.text is b.is)
  some_broke Fault r R b f = some_lost r b.text b.reached (λ x is. f x b.text is b.is)

module _ {p q : Printer} {P : List ℕ → Type 0} (g : GainsSome P p q) where
  -- what it means is changed
  pub some_is : (Q : List ℕ → Type 0) → ((x : List ℕ) → P x → Q x) → GainsSome Q p q
  some_is Q f = record { text = g.text; gained = g.gained; is = f g.text g.is }

  -- what was gathered is written, or a write fails there
  pub some_flushed : {r : Printer} → Gains q r [] → GainsSome P p r
  some_flushed h = some_then g P h (λ x is. subst P (sym (append-nil x)) is)

  pub some_lost_here : (r : Printer) → AppendsFront q.held r.held q.gathered → LosesSome P p r
  some_lost_here r h = some_lost g P r [] (subst (AppendsFront q.held r.held) (sym (append-nil q.gathered)) h) (λ x is. subst P (sym (append-nil x)) is)

-- ---- a printer that had gathered nothing
pub wrote_front : {a c : Bytes} {q : List ℕ} {P : List ℕ → Type 0} (Q : List ℕ → Type 0) → LosesSome P (printer a []) (printer c q) → ((x front : List ℕ) → P x → IsFront front x → Q front) → Wrote a c Q
wrote_front Q l f = (take l.reached.0 l.text, l.reached.1, f l.text (take l.reached.0 l.text) l.is (front_take l.reached.0 l.text))

-- where the run was broken off, and what is gathered is written as far as that goes, but for a fault
pub wrote_broken : {P : List ℕ → Type 0} (Q : List ℕ → Type 0) (a b c : Bytes) (out : List ℕ) (stop : Stop) → BreaksOff P stop (printer a []) (printer b out) → (stop ≡ NoMemory → AppendsFront b c out) → (stop ≡ Fault → c ≡ b)
    → ((x front : List ℕ) → P x → IsFront front x → Q front) → Wrote a c Q
wrote_broken Q a b c out NoMemory g salvaged same f = wrote_front Q (some_lost_here g (printer c []) (salvaged refl)) f
wrote_broken Q a b c out Fault l salvaged same f = subst (λ (x : Bytes). Wrote a x Q) (sym (same refl)) (wrote_front Q l f)
