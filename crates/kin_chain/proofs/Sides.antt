-- One chain beside a place of the breakpoint list: its current point, what is passed and what is to come.
use Rattle.std.proofs.Common.{◌≡◌, ◌⊎◌, inl, inr, sym, ap, ◌∙◌, subst, List, [], ◌∷◌, ℕ, false, cond}
use Rattle.std.specs.Prelude.{Contains}
use Rattle.kin_algebra.proofs.Members.{contains_head, contains_tail}
use Rattle.kin_algebra.proofs.OrderedRings.{OrderedRing}
use Rattle.kin_motion.specs.Merges.{Half, Breakpoint, is_of, own_of, breakpoints_of}
use Rattle.kin_motion.proofs.BreakpointLaws.{itself}
use Rattle.kin_motion.proofs.SetLaws.{filter-sound}
use Rattle.kin_motion.specs.Numbers.{IsIn}
use Rattle.kin_motion.proofs.Members.{in_head, in_tail, in_cases}
use Rattle.kin_chain.proofs.Comparisons.{AtMost, Below, own_most, most_most, below_most, level_most}
use Rattle.kin_chain.proofs.Planes.{Places}
use Rattle.kin_chain.proofs.Geometry.{Direction, Steep, up, along, flatter, level_ends}
use Rattle.kin_chain.proofs.Stays.{Stays}

module _ {R : Type 0} (o : OrderedRing R) (ps : Places o) where
  -- what an upper chain of a set is, in terms of places
  pub record ChainOf (set chain : List ℕ) : Type 0 where
    pub inside : (c : ℕ) → IsIn c chain → IsIn c set
    pub stays : (c : ℕ) → IsIn c chain → Stays o ps set c
    pub all : (c : ℕ) → IsIn c set → Stays o ps set c → IsIn c chain
    -- every point of the set is at most as high as one of the chain
    pub best : (d : Direction o) (q : ℕ) → IsIn q set → (c : ℕ) × IsIn c chain × AtMost o (up o ps d) q c

  -- every breakpoint of the list falls along d, or is level
  abbrev pub Falls : Direction o → List Breakpoint → Type 0
  Falls d es = (f : Breakpoint) → Contains es f → AtMost o (up o ps d) f.right f.left

  -- of the chain of half h: p is current, `rest` comes behind it with the breakpoints of `es`, and what is passed is no farther right and no higher along l
  pub record Side (chain : List ℕ) (h : Half) (l : Direction o) (p : ℕ) (rest : List ℕ) (es : List Breakpoint) : Type 0 where
    pub own : own_of h es ≡ breakpoints_of h (p ∷ rest)
    pub part : (c : ℕ) → IsIn c (p ∷ rest) → IsIn c chain
    pub passed : (c : ℕ) → IsIn c chain → IsIn c (p ∷ rest) ⊎ (AtMost o ps.x c p × AtMost o (up o ps l) c p)

  descend : (h : Half) (d : Direction o) (p : ℕ) (rest : List ℕ) → Falls d (breakpoints_of h (p ∷ rest)) → (c : ℕ) → IsIn c (p ∷ rest) → AtMost o (up o ps d) c p
  descend h d p [] falls c i = at (in_cases c p [] i)
    where
      at : (c ≡ p) ⊎ IsIn c [] → AtMost o (up o ps d) c p
      at (inl e) = subst (λ n. AtMost o (up o ps d) n p) (sym e) (own_most o (up o ps d) p)
      at (inr k) = absurd cc
  descend h d p (j ∷ rest) falls c i = at (in_cases c p (j ∷ rest) i) (descend h d j rest (λ f k. falls f (contains_tail (record { half = h; left = p; right = j }) f (breakpoints_of h (j ∷ rest)) k)) c)
    where
      at : (c ≡ p) ⊎ IsIn c (j ∷ rest) → (IsIn c (j ∷ rest) → AtMost o (up o ps d) c j) → AtMost o (up o ps d) c p
      at (inl e) r = subst (λ n. AtMost o (up o ps d) n p) (sym e) (own_most o (up o ps d) p)
      at (inr k) r = most_most o (r k) (falls (record { half = h; left = p; right = j }) (contains_head (record { half = h; left = p; right = j }) (breakpoints_of h (j ∷ rest))))

  module _ {set chain : List ℕ} (known : ChainOf set chain) {h : Half} {l : Direction o} {p : ℕ} {rest : List ℕ} {es : List Breakpoint} (side : Side chain h l p rest es) where
    pub own_in_chain : IsIn p chain
    own_in_chain = side.part p (in_head p rest)

    -- no member of the chain is higher along a direction that comes here
    outermost : (d : Direction o) → Steep o l d → Falls d es → (c : ℕ) → IsIn c chain → AtMost o (up o ps d) c p
    outermost d steep falls c i = at (side.passed c i)
      where
        own_falls : Falls d (breakpoints_of h (p ∷ rest))
        own_falls f k = falls f (filter-sound (λ (e : Breakpoint). is_of h e.half) es f (subst (λ (gs : List Breakpoint). Contains gs f) (sym side.own) k)).0

        at : IsIn c (p ∷ rest) ⊎ (AtMost o ps.x c p × AtMost o (up o ps l) c p) → AtMost o (up o ps d) c p
        at (inl k) = descend h d p rest own_falls c k
        at (inr k) = flatter o ps steep k.0 k.1

    -- support: and no member of the set
    pub support : (d : Direction o) → Steep o l d → Falls d es → (q : ℕ) → IsIn q set → AtMost o (up o ps d) q p
    support d steep falls q i = let b = known.best d q i in most_most o b.2 (outermost d steep falls b.0 b.1)

  -- ---- passing a breakpoint
  tail_of : List Breakpoint → List Breakpoint
  tail_of [] = []
  tail_of (e ∷ es) = es

  module _ {chain : List ℕ} {h : Half} {l : Direction o} {p : ℕ} {rest : List ℕ} (e : Breakpoint) {es : List Breakpoint} where
    -- of the other half
    pub pass_other : (d : Direction o) → Side chain h l p rest (e ∷ es) → is_of h e.half ≡ false → Steep o l d → Side chain h d p rest es
    pass_other d side other steep = record {
      own = sym (ap (λ t. cond t (e ∷ own_of h es) (own_of h es)) other) ∙ side.own;
      part = side.part;
      passed = λ c i. at c (side.passed c i);
    }
      where
        at : (c : ℕ) → IsIn c (p ∷ rest) ⊎ (AtMost o ps.x c p × AtMost o (up o ps l) c p) → IsIn c (p ∷ rest) ⊎ (AtMost o ps.x c p × AtMost o (up o ps d) c p)
        at c (inl k) = inl k
        at c (inr k) = inr (k.0, flatter o ps steep k.0 k.1)

  -- its own
  pub pass_own : {chain : List ℕ} {h : Half} {l : Direction o} {p j : ℕ} {rest : List ℕ} {es : List Breakpoint} → (r : Below o ps.x p j) → Side chain h l p (j ∷ rest) (record { half = h; left = p; right = j } ∷ es) → Steep o l (along o ps p j r)
      → Side chain h (along o ps p j r) j rest es
  unfolding tail_of
  pass_own {chain} {h} {l} {p} {j} {rest} {es} r side steep = record {
    own = ap tail_of (sym (ap (λ t. cond t (e ∷ own_of h es) (own_of h es)) (itself h)) ∙ side.own);
    part = λ c k. side.part c (in_tail c p (j ∷ rest) k);
    passed = λ c i. at c (side.passed c i);
  }
    where
      e : Breakpoint
      e = record { half = h; left = p; right = j }

      level : AtMost o (up o ps (along o ps p j r)) p j
      level = level_most o (level_ends o ps p j)

      by_place : (c : ℕ) → (c ≡ p) ⊎ IsIn c (j ∷ rest) → IsIn c (j ∷ rest) ⊎ (AtMost o ps.x c j × AtMost o (up o ps (along o ps p j r)) c j)
      by_place c (inl q) = inr (subst (λ n. AtMost o ps.x n j) (sym q) (below_most o r), subst (λ n. AtMost o (up o ps (along o ps p j r)) n j) (sym q) level)
      by_place c (inr k) = inl k

      at : (c : ℕ) → IsIn c (p ∷ j ∷ rest) ⊎ (AtMost o ps.x c p × AtMost o (up o ps l) c p) → IsIn c (j ∷ rest) ⊎ (AtMost o ps.x c j × AtMost o (up o ps (along o ps p j r)) c j)
      at c (inl k) = by_place c (in_cases c p (j ∷ rest) k)
      at c (inr k) = inr (most_most o k.0 (below_most o r), most_most o (flatter o ps steep k.0 k.1) level)
