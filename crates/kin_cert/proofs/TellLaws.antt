-- A change that may be told may be applied.
use Rattle.std.proofs.Common.{◌≡◌, ℕ, inl, inr, List, [], Some, get_or, sym, ap, subst, ◌∙◌, arith}
use Rattle.kin_algebra.proofs.Signs.{equal_or_not}
use Rattle.std.proofs.lemmas.Option.{slice_get-get_or}
use Rattle.std.specs.List.{Contains, All, AllPairs}
use Rattle.std.proofs.lemmas.List.Elements.{All-contains, Contains-get_or}
use Rattle.kin_motion.specs.declared.fact.Placed.{Placed}
use Rattle.kin_motion.specs.Deltas.{Change}
use Rattle.kin_motion.specs.Forms.{IsAskable}
use Rattle.kin_motion.specs.Kinetics.{HasGained, HasChanged}
use Rattle.kin_motion.specs.Live.{owned_by}
use Rattle.kin_motion.specs.Scene.{Scene, Holds}
use Rattle.kin_motion.specs.Sets.{ListsExactly}
use Rattle.kin_cert.specs.Facts.{LiveFact}
use Rattle.kin_cert.specs.Applied.{IsLiveIn, IsAmong, AreUnlike, MayApply}
use Rattle.kin_cert.proofs.Changes.{is-at}
use Rattle.kin_cert.specs.Told.{nothing, MayTell}
use Rattle.kin_fail.proofs.SamePlaced.{same_placed}

-- what holds of all items, item by item
all_of : {A : Type 0} (xs : List A) (which : A → Type 0) → ((x : A) → Contains xs x → which x) → All which xs
all_of {A} xs which each i d lt = each (get_or xs i d) (Contains-get_or xs i d lt)

-- gained from nothing on
gained_all : (xs : List Placed) (which : Placed → Type 0) → HasGained [] xs which → ListsExactly xs which
gained_all xs which g = subst (λ (ys : List Placed). ListsExactly ys which) (sym g.joined) g.exactly

pub dropped_all : (before after : List Placed) (change : Change) → HasChanged before after nothing change → ListsExactly change.dropped (λ p. Contains before p × ¬ (Contains after p))
dropped_all before after change changed = gained_all change.dropped _ changed.dropped

pub born_all : (before after : List Placed) (change : Change) → HasChanged before after nothing change → ListsExactly change.born (λ p. Contains after p × ¬ (Contains before p))
born_all before after change changed = gained_all change.born _ changed.born

module _ (k : ℕ) (change : Change) (s : Scene) (live : List LiveFact) (may : MayTell k change s live) where
  dropped : ListsExactly change.dropped (λ p. Contains may.before p × ¬ (Contains may.after p))
  dropped = dropped_all may.before may.after change may.changed

  born : ListsExactly change.born (λ p. Contains may.after p × ¬ (Contains may.before p))
  born = born_all may.before may.after change may.changed

  holds : (p : Placed) → Contains may.after p → Holds s p.fact
  holds p there = All-contains (λ (q : Placed). Holds s q.fact) may.after p may.hold there

  pub born_hold : All (λ p. Holds s p.fact) change.born
  born_hold = all_of change.born (λ p. Holds s p.fact) (λ p c. holds p ((born.each p).0 c).0)

  pub born_askable : All (λ p. IsAskable s.live p.fact.form) change.born
  born_askable = all_of change.born (λ p. IsAskable s.live p.fact.form) (λ p c. All-contains (λ (q : Placed). IsAskable s.live q.fact.form) may.after p may.askable ((born.each p).0 c).0)

  -- two facts that hold differ in part or form, if they differ
  same_held : (p q : Placed) → Holds s p.fact → Holds s q.fact → p.part ≡ q.part → p.fact.form ≡ q.fact.form → p ≡ q
  same_held p q hp hq e f = same_placed p q e f (sym hp ∙ ap s.sign f ∙ hq)

  -- a live fact in the way of a born one is dropped: it doesn't hold, or the born one would not be new
  born_free : (l : LiveFact) → Contains live l → IsAmong k change.born l → IsAmong k change.dropped l
  born_free l there (p, p_born, of) =
      let q = l.certificate.placed in
      let owned : l.certificate ≡ owned_by k q = λ t. record { structure = of.structure_is t; placed = q } in
      let was : Contains may.before q = (may.tabled q).1 (l, there, owned) in
      let new = (born.each p).0 p_born in
      let gone : (Holds s q.fact → ⊥) → IsAmong k change.dropped l = λ n. (q, (dropped.each q).1 (was, λ c. n (holds q c)), is-at k q l owned) in
      elim (equal_or_not (s.sign q.fact.form) q.fact.sign) [
        | inl h ↦ absurd (new.1 (subst (λ (x : Placed). Contains may.before x) (same_held q p h (holds p new.0) of.part_is of.form_is) was))
        | inr n ↦ gone n
      ]

  born_once : AllPairs AreUnlike change.born
  born_once i j d lt in_born e f =
      let at_i = Contains-get_or change.born i d (omega (arith, lt, in_born)) in
      let at_j = Contains-get_or change.born j d in_born in
      let same : get_or change.born i d ≡ get_or change.born j d = same_held _ _ (holds _ ((born.each _).0 at_i).0) (holds _ ((born.each _).0 at_j).0) e f in
      let i_is : i ≡ j = born.once i j (get_or change.born j d) (slice_get-get_or change.born i d (omega (arith, lt, in_born)) ∙ ap (λ (x : Placed). Some x) same) (slice_get-get_or change.born j d in_born) in
      absurd (omega (arith, lt, i_is))

  pub may_apply : MayApply k change live
  may_apply = record {
    dropped_live = all_of change.dropped (IsLiveIn live k) (λ p c. (may.tabled p).0 ((dropped.each p).0 c).0);
    dropped_once = dropped.once;
    born_free = born_free;
    born_once = born_once;
  }
