-- Support at each breakpoint of a merge, and what narrow cells have at both ends.
use Rattle.std.proofs.Common.{◌≡◌, ◌⊎◌, inl, inr, sym, ◌∙◌, subst, List, [], ◌∷◌, ◌++◌, ℕ, true}
use Rattle.std.specs.Prelude.{Contains, Option, Some, None}
use Rattle.kin_algebra.proofs.Members.{contains_none, contains_cases}
use Rattle.kin_algebra.specs.declared.sign.Sign.{Sign}
use Rattle.kin_algebra.proofs.OrderedRings.{OrderedRing}
use Rattle.kin_motion.specs.Scene.{Scene}
use Rattle.kin_motion.specs.Merges.{Half, Half.{A, B}, Breakpoint, IsCurrent, other, point_of, current_after}
use Rattle.kin_motion.specs.Cells.{Cell, above_left, cells_of}
use Rattle.kin_motion.proofs.CurrentLaws.{current_before, first_behind}
use Rattle.kin_motion.specs.Numbers.{IsIn}
use Rattle.kin_chain.specs.Supports.{list_of, Support, Outermost, TiesAgree}
use Rattle.kin_chain.proofs.Comparisons.{AtMost}
use Rattle.kin_chain.proofs.Planes.{Places, step, height}
use Rattle.kin_chain.proofs.Geometry.{Direction, along}
use Rattle.kin_chain.proofs.Sides.{support}
use Rattle.kin_chain.proofs.Ground.{Merging, At, own_falls, goes_right, steep_next}
use Rattle.kin_chain.proofs.Steps.{at_start}
use Rattle.kin_chain.proofs.Nexts.{ahead, next}
use Rattle.kin_chain.proofs.CellLaws.{Linked, cells_linked}
use Rattle.kin_chain.proofs.RealPlanes.{here, places, shown}
use Rattle.kin_chain.proofs.MergedChain.{chain_of, merging}
use Rattle.kin_chain.proofs.ChainLaws.{never_minus}

module _ {R : Type 0} (o : OrderedRing R) (ps : Places o) (s : Scene) (m : Merging o ps s) where
  -- no point of the half's set is higher along the breakpoint than k
  abbrev IsSupported : Breakpoint → Half → ℕ → Type 0
  IsSupported e h k = (q : ℕ) → IsIn q (list_of h m.left m.right) → AtMost o (height o ps (step o ps e.left e.right)) q k

  first_supported : {l : Direction o} {front : Option Breakpoint} {a : ℕ} {as' : List ℕ} {b : ℕ} {bs : List ℕ} (e : Breakpoint) {behind : List Breakpoint} → At o ps s m l front a as' b bs (e ∷ behind) → (h : Half) → IsSupported e h (point_of h a b)
  first_supported {l} {front} {a} {as'} {b} {bs} e {behind} at A = support o ps m.a_known at.a_side (along o ps e.left e.right (goes_right o ps s m e at)) (steep_next o ps s m e at) (own_falls o ps s m e behind (goes_right o ps s m e at) at.sorted)
  first_supported {l} {front} {a} {as'} {b} {bs} e {behind} at B = support o ps m.b_known at.b_side (along o ps e.left e.right (goes_right o ps s m e at)) (steep_next o ps s m e at) (own_falls o ps s m e behind (goes_right o ps s m e at) at.sorted)

  pub supported : (before : List Breakpoint) (e : Breakpoint) (behind : List Breakpoint) (l : Direction o) (front : Option Breakpoint) (a : ℕ) (as' : List ℕ) (b : ℕ) (bs : List ℕ) → At o ps s m l front a as' b bs (before ++ e ∷ behind)
      → (h : Half) (k : ℕ) → IsCurrent h (point_of h a b) before k → IsSupported e h k
  supported [] e behind l front a as' b bs at h k (inl c) = subst (IsSupported e h) (sym c.1) (first_supported e at h)
  supported [] e behind l front a as' b bs at h k (inr ([], d, q, r)) = absurd cc
  supported [] e behind l front a as' b bs at h k (inr (y ∷ ys, d, q, r)) = absurd cc
  supported (d ∷ ds) e behind l front a as' b bs at h k c =
      let n = next o ps s m d at in
      supported ds e behind (ahead o ps s m d at) (Some d) n.now.a n.now.as' n.now.b n.now.bs n.at h k
      (subst (λ i. IsCurrent h (point_of h i n.now.b) ds k) (sym n.a_is) (subst (λ j. IsCurrent h (point_of h (current_after A d a) j) ds k) (sym n.b_is)
      (subst (λ i. IsCurrent h i ds k) (sym (first_behind h d a b)) (current_before h d (point_of h a b) ds k c))))

  -- both ends of a narrow cell have one sign
  pub ties : (cs : List Cell) (l : Direction o) (t : Sign) (a b : ℕ) → Linked o ps s m l t a b cs → (c : Cell) → Contains cs c → c.narrow ≡ true → c.left ≡ c.right
  ties [] l t a b linked c k n = absurd (contains_none c k)
  ties (d ∷ ds) l t a b (e, f, g, (r, sound, (a', b', h, i, rest))) c k n = at (contains_cases d c ds k) (ties ds r d.right a' b' rest c)
    where
      at : (d ≡ c) ⊎ Contains ds c → (Contains ds c → c.narrow ≡ true → c.left ≡ c.right) → c.left ≡ c.right
      at (inl q) rest = subst (λ (x : Cell). x.narrow ≡ true → x.left ≡ x.right) q sound.narrow n
      at (inr k) rest = rest k n

pub support_proved : Support
unfolding merging
support_proved s left right a as' b bs before e behind h k q place c i =
    let m = merging s place.real place.told place.list in
    let high = supported (here s place.real) (places s place.real) s m before e behind m.outer.left None a as' b bs (at_start (here s place.real) (places s place.real) s m) h k c q i in
    λ minus. never_minus high.is (sym ((shown s place.real).slopes e.left e.right k q) ∙ minus)

pub outermost_proved : Outermost
outermost_proved s left right a as' b bs before e behind k l place c i = support_proved s left right a as' b bs before e behind (other e.half) k l place c (inside (other e.half) i)
  where
    inside : (h : Half) → IsIn l (list_of h (a ∷ as') (b ∷ bs)) → IsIn l (list_of h left right)
    inside A j = (chain_of s place.real place.told.a_chain).inside l j
    inside B j = (chain_of s place.real place.told.b_chain).inside l j

pub ties_proved : TiesAgree
unfolding merging
ties_proved s left right a as' b bs es c real told list k n =
    let m = merging s real told list in
    ties (here s real) (places s real) s m (cells_of s a b es) m.outer.left (above_left s a b) a b (cells_linked (here s real) (places s real) s m) c k n
