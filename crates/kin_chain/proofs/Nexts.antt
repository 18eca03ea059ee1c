-- What passing one breakpoint does to the walk, said once for both halves.
use Rattle.std.proofs.Common.{◌≡◌, ◌⊎◌, inl, inr, refl, sym, ◌∙◌, subst, List, ◌∷◌, ℕ}
use Rattle.std.specs.Prelude.{Option, Some}
use Rattle.kin_algebra.proofs.OrderedRings.{OrderedRing}
use Rattle.kin_motion.specs.Scene.{Scene}
use Rattle.kin_motion.specs.Merges.{Half, Half.{A, B}, Breakpoint, own_of, other, point_of, current_after}
use Rattle.kin_motion.specs.Cells.{above_at}
use Rattle.kin_motion.specs.Numbers.{IsIn}
use Rattle.kin_motion.proofs.Members.{in_head, in_tail}
use Rattle.kin_motion.proofs.BreakpointLaws.{own_with}
use Rattle.kin_chain.specs.Supports.{list_of}
use Rattle.kin_chain.proofs.Planes.{Places}
use Rattle.kin_chain.proofs.Geometry.{Direction, up, along}
use Rattle.kin_chain.proofs.Stays.{Comes}
use Rattle.kin_chain.proofs.Ground.{Merging, both, At, goes_right}
use Rattle.kin_chain.proofs.Walks.{IsNext, next_of}
use Rattle.kin_chain.proofs.Steps.{a_inside, b_inside, behind_a, behind_b, higher, above_at_a, above_at_b, above_behind_a, above_behind_b}

-- the points that are current, a of A and b of B, and what comes behind them in both chains
pub record Current : Type 0 where
  pub a : ℕ
  pub as' : List ℕ
  pub b : ℕ
  pub bs : List ℕ

-- the current point of a half, and what comes behind it
abbrev pub point : Half → Current → ℕ
point h c = point_of h c.a c.b

abbrev pub rest : Half → Current → List ℕ
rest h c = list_of h c.as' c.bs

-- the breakpoint d is of half h: its current point moves from d.left to d.right
pub record IsOwnStep (h : Half) (d : Breakpoint) (c n : Current) : Type 0 where
  pub half : d.half ≡ h
  pub from : d.left ≡ point h c
  pub to : point h n ≡ d.right
  pub own_rest : rest h c ≡ d.right ∷ rest h n
  pub other_same : point (other h) n ≡ point (other h) c

-- it is of the other half
pub record IsOtherStep (h : Half) (d : Breakpoint) (c n : Current) : Type 0 where
  pub half : d.half ≡ other h
  pub from : d.left ≡ point (other h) c
  pub to : point (other h) n ≡ d.right
  pub own_same : point h n ≡ point h c
  pub rest_same : rest h n ≡ rest h c

module _ {R : Type 0} (o : OrderedRing R) (ps : Places o) (s : Scene) (m : Merging o ps s) where
  -- the walk behind the breakpoint d, at an end of direction r
  pub record Next (d : Breakpoint) (c : Current) (es : List Breakpoint) (r : Direction o) : Type 0 where
    pub now : Current
    pub at : At o ps s m r (Some d) now.a now.as' now.b now.bs es
    pub a_is : now.a ≡ current_after A d c.a
    pub b_is : now.b ≡ current_after B d c.b
    pub comes_a : Comes o ps c.a now.a
    pub comes_b : Comes o ps c.b now.b
    pub inside : IsIn d.right (both o ps s m)
    pub above : above_at s c.a c.b d ≡ higher o ps s m (up o ps r) c.a c.b
    pub above_now : above_at s c.a c.b d ≡ higher o ps s m (up o ps r) now.a now.b
    pub step : (h : Half) → IsOwnStep h d c now ⊎ IsOtherStep h d c now

  -- the direction of the first breakpoint
  abbrev pub ahead : {l : Direction o} {before : Option Breakpoint} {a : ℕ} {as' : List ℕ} {b : ℕ} {bs : List ℕ} (d : Breakpoint) {es : List Breakpoint} → At o ps s m l before a as' b bs (d ∷ es) → Direction o
  ahead {l} {before} {a} {as'} {b} {bs} d {es} at = along o ps d.left d.right (goes_right o ps s m d at)

  next_a : {l : Direction o} {before : Option Breakpoint} {a j : ℕ} {as' : List ℕ} {b : ℕ} {bs : List ℕ} {es : List Breakpoint} (at : At o ps s m l before a (j ∷ as') b bs (record { half = A; left = a; right = j } ∷ es))
      → Next (record { half = A; left = a; right = j }) (record { a = a; as' = j ∷ as'; b = b; bs = bs }) es (ahead (record { half = A; left = a; right = j }) at)
  next_a {l} {before} {a} {j} {as'} {b} {bs} {es} at = record {
    now = record { a = j; as' = as'; b = b; bs = bs };
    at = behind_a o ps s m at;
    a_is = refl;
    b_is = refl;
    comes_a = inr (goes_right o ps s m (record { half = A; left = a; right = j }) at);
    comes_b = inl refl;
    inside = a_inside o ps s m j (at.a_side.part j (in_tail j a (j ∷ as') (in_head j as')));
    above = above_at_a o ps s m a j b;
    above_now = above_behind_a o ps s m a j b;
    step = steps;
  }
    where
      steps : (h : Half) → IsOwnStep h (record { half = A; left = a; right = j }) (record { a = a; as' = j ∷ as'; b = b; bs = bs }) (record { a = j; as' = as'; b = b; bs = bs })
          ⊎ IsOtherStep h (record { half = A; left = a; right = j }) (record { a = a; as' = j ∷ as'; b = b; bs = bs }) (record { a = j; as' = as'; b = b; bs = bs })
      steps A = inl (record { half = refl; from = refl; to = refl; own_rest = refl; other_same = refl })
      steps B = inr (record { half = refl; from = refl; to = refl; own_same = refl; rest_same = refl })

  next_b : {l : Direction o} {before : Option Breakpoint} {a : ℕ} {as' : List ℕ} {b j : ℕ} {bs : List ℕ} {es : List Breakpoint} (at : At o ps s m l before a as' b (j ∷ bs) (record { half = B; left = b; right = j } ∷ es))
      → Next (record { half = B; left = b; right = j }) (record { a = a; as' = as'; b = b; bs = j ∷ bs }) es (ahead (record { half = B; left = b; right = j }) at)
  next_b {l} {before} {a} {as'} {b} {j} {bs} {es} at = record {
    now = record { a = a; as' = as'; b = j; bs = bs };
    at = behind_b o ps s m at;
    a_is = refl;
    b_is = refl;
    comes_a = inl refl;
    comes_b = inr (goes_right o ps s m (record { half = B; left = b; right = j }) at);
    inside = b_inside o ps s m j (at.b_side.part j (in_tail j b (j ∷ bs) (in_head j bs)));
    above = above_at_b o ps s m a b j;
    above_now = above_behind_b o ps s m a b j;
    step = steps;
  }
    where
      steps : (h : Half) → IsOwnStep h (record { half = B; left = b; right = j }) (record { a = a; as' = as'; b = b; bs = j ∷ bs }) (record { a = a; as' = as'; b = j; bs = bs })
          ⊎ IsOtherStep h (record { half = B; left = b; right = j }) (record { a = a; as' = as'; b = b; bs = j ∷ bs }) (record { a = a; as' = as'; b = j; bs = bs })
      steps A = inr (record { half = refl; from = refl; to = refl; own_same = refl; rest_same = refl })
      steps B = inl (record { half = refl; from = refl; to = refl; own_rest = refl; other_same = refl })

  -- the breakpoint that comes, whichever half it is of
  pub next : {l : Direction o} {before : Option Breakpoint} {a : ℕ} {as' : List ℕ} {b : ℕ} {bs : List ℕ} (d : Breakpoint) {es : List Breakpoint} (at : At o ps s m l before a as' b bs (d ∷ es))
      → Next d (record { a = a; as' = as'; b = b; bs = bs }) es (ahead d at)
  next {l} {before} {a} {as'} {b} {bs} d {es} at = by_half d.half refl
    where
      of_a : IsNext A a as' d (own_of A es) → Next d (record { a = a; as' = as'; b = b; bs = bs }) es (ahead d at)
      of_a n =
          subst (λ (x : Breakpoint). (at : At o ps s m l before a as' b bs (x ∷ es)) → Next x (record { a = a; as' = as'; b = b; bs = bs }) es (ahead x at)) (sym n.is)
          (subst (λ (xs : List ℕ). (at : At o ps s m l before a xs b bs (record { half = A; left = a; right = n.to } ∷ es)) → Next (record { half = A; left = a; right = n.to }) (record { a = a; as' = xs; b = b; bs = bs }) es (ahead (record { half = A; left = a; right = n.to }) at)) (sym n.rest_is)
          (λ at. next_a at)) at

      of_b : IsNext B b bs d (own_of B es) → Next d (record { a = a; as' = as'; b = b; bs = bs }) es (ahead d at)
      of_b n =
          subst (λ (x : Breakpoint). (at : At o ps s m l before a as' b bs (x ∷ es)) → Next x (record { a = a; as' = as'; b = b; bs = bs }) es (ahead x at)) (sym n.is)
          (subst (λ (xs : List ℕ). (at : At o ps s m l before a as' b xs (record { half = B; left = b; right = n.to } ∷ es)) → Next (record { half = B; left = b; right = n.to }) (record { a = a; as' = as'; b = b; bs = xs }) es (ahead (record { half = B; left = b; right = n.to }) at)) (sym n.rest_is)
          (λ at. next_b at)) at

      by_half : (h : Half) → d.half ≡ h → Next d (record { a = a; as' = as'; b = b; bs = bs }) es (ahead d at)
      by_half A q = of_a (next_of A a as' d (own_of A es) (sym (own_with A A d es q) ∙ at.a_side.own))
      by_half B q = of_b (next_of B b bs d (own_of B es) (sym (own_with B B d es q) ∙ at.b_side.own))
