-- The cells of a sweep have points of both chains, and each has a slot of its own.
use Rattle.std.proofs.Common.{◌≡◌, ◌⊎◌, inl, inr, refl, sym, ap, ◌∙◌, subst, arith, List, [], ◌∷◌, ℕ, ◌+◌, ◌*◌, cond}
use Rattle.std.specs.Prelude.{Contains}
use Rattle.kin_algebra.proofs.Members.{contains_none, contains_cases}
use Rattle.kin_motion.specs.ClosestFacts.{near}
use Rattle.kin_motion.specs.ClosestPairs.{Near}
use Rattle.kin_motion.specs.Merges.{Half, Half.{A, B}, Breakpoint, is_of, own_of, breakpoints_of}
use Rattle.kin_motion.specs.Numbers.{IsIn}
use Rattle.kin_motion.specs.Sets.{AreDistinct}
use Rattle.kin_motion.specs.Sweeps.{breakpoints_back, cell_pairs_from, cell_pairs}
use Rattle.kin_motion.proofs.BreakpointLaws.{own_with}
use Rattle.kin_motion.proofs.Members.{in_head, in_tail, contains_from_in}
use Rattle.kin_motion.proofs.SetLaws.{distinct_head, distinct_tail}

-- ---- lists of breakpoints
head_or : Breakpoint → List Breakpoint → Breakpoint
head_or e [] = e
head_or e (f ∷ fs) = f

tail_of : List Breakpoint → List Breakpoint
tail_of [] = []
tail_of (f ∷ fs) = fs

pub same_first : {e f : Breakpoint} {es fs : List Breakpoint} → e ∷ es ≡ f ∷ fs → e ≡ f
unfolding head_or
same_first {e} {f} {es} {fs} q = ap (head_or e) q

pub same_rest : {e f : Breakpoint} {es fs : List Breakpoint} → e ∷ es ≡ f ∷ fs → es ≡ fs
unfolding tail_of
same_rest {e} {f} {es} {fs} q = ap tail_of q

-- a pair of points of both chains, in a slot of one of them
pub record IsCellOf (us vs : List ℕ) (n : Near) : Type 0 where
  pub u : ℕ
  pub v : ℕ
  pub upper : IsIn u us
  pub lower : IsIn v vs
  pub pair : n ≡ near n.slot u v
  pub slot : (n.slot ≡ 2 * u) ⊎ (n.slot ≡ 2 * v + 1)

-- its slot is that of a later point
abbrev IsLater : List ℕ → List ℕ → Near → Type 0
IsLater ps qs n = ((u : ℕ) × IsIn u ps × (n.slot ≡ 2 * u)) ⊎ ((v : ℕ) × IsIn v qs × (n.slot ≡ 2 * v + 1))

-- the slot of a cell that begins with p or with q
abbrev pub OfEither : ℕ → ℕ → ℕ → Type 0
OfEither p q slot = (slot ≡ 2 * p) ⊎ (slot ≡ 2 * q + 1)

abbrev Tail : Breakpoint → List Breakpoint → ℕ → ℕ → List Near
Tail e es p q = cond (is_of A e.half) (cell_pairs_from (2 * e.right) e.right q es) (cell_pairs_from (2 * e.left + 1) p e.left es)

-- what is known where p and q are current before the breakpoints es
record Ahead (es : List Breakpoint) (p q : ℕ) (ps qs : List ℕ) : Type 0 where
  of_upper : own_of A es ≡ breakpoints_of A (p ∷ ps)
  of_lower : own_of B es ≡ breakpoints_back (q ∷ qs)

-- the next breakpoint is of the upper chain, or of the lower one
data Next (e : Breakpoint) (es : List Breakpoint) (p q : ℕ) (ps qs : List ℕ) : Type 0 where
  by_upper : (n : ℕ) (rest : List ℕ) → ps ≡ n ∷ rest → Tail e es p q ≡ cell_pairs_from (2 * n) n q es → Ahead es n q rest qs → Next e es p q ps qs
  by_lower : (n : ℕ) (rest : List ℕ) → qs ≡ n ∷ rest → Tail e es p q ≡ cell_pairs_from (2 * n + 1) p n es → Ahead es p n ps rest → Next e es p q ps qs

next_of : (e : Breakpoint) (es : List Breakpoint) (p q : ℕ) (ps qs : List ℕ) → Ahead (e ∷ es) p q ps qs → Next e es p q ps qs
next_of e es p q ps qs a = by_half e.half refl
  where
    upper : (ps : List ℕ) → e.half ≡ A → e ∷ own_of A es ≡ breakpoints_of A (p ∷ ps) → own_of B es ≡ breakpoints_back (q ∷ qs) → Next e es p q ps qs
    upper [] g own other = absurd cc
    upper (n ∷ rest) g own other =
        by_upper n rest refl
        (ap (λ h. cond (is_of A h) (cell_pairs_from (2 * e.right) e.right q es) (cell_pairs_from (2 * e.left + 1) p e.left es)) g ∙ ap (λ (f : Breakpoint). cell_pairs_from (2 * f.right) f.right q es) (same_first own))
        (record { of_upper = same_rest own; of_lower = other })

    lower : (qs : List ℕ) → e.half ≡ B → own_of A es ≡ breakpoints_of A (p ∷ ps) → e ∷ own_of B es ≡ breakpoints_back (q ∷ qs) → Next e es p q ps qs
    lower [] g other own = absurd cc
    lower (n ∷ rest) g other own =
        by_lower n rest refl
        (ap (λ h. cond (is_of A h) (cell_pairs_from (2 * e.right) e.right q es) (cell_pairs_from (2 * e.left + 1) p e.left es)) g ∙ ap (λ (f : Breakpoint). cell_pairs_from (2 * f.left + 1) p f.left es) (same_first own))
        (record { of_upper = other; of_lower = same_rest own })

    by_half : (g : Half) → e.half ≡ g → Next e es p q ps qs
    by_half A g = upper ps g (sym (own_with A A e es g) ∙ a.of_upper) (sym (own_with B A e es g) ∙ a.of_lower)
    by_half B g = lower qs g (sym (own_with A B e es g) ∙ a.of_upper) (sym (own_with B B e es g) ∙ a.of_lower)

-- ---- members
more_upper : {p : ℕ} {us vs : List ℕ} {n : Near} → IsCellOf us vs n → IsCellOf (p ∷ us) vs n
more_upper {p} {us} {vs} {n} c = record { u = c.u; v = c.v; upper = in_tail c.u p us c.upper; lower = c.lower; pair = c.pair; slot = c.slot }

more_lower : {q : ℕ} {us vs : List ℕ} {n : Near} → IsCellOf us vs n → IsCellOf us (q ∷ vs) n
more_lower {q} {us} {vs} {n} c = record { u = c.u; v = c.v; upper = c.upper; lower = in_tail c.v q vs c.lower; pair = c.pair; slot = c.slot }

first_cell : (slot p q : ℕ) (ps qs : List ℕ) (n : Near) → OfEither p q slot → near slot p q ≡ n → IsCellOf (p ∷ ps) (q ∷ qs) n
first_cell slot p q ps qs n own e =
    subst (IsCellOf (p ∷ ps) (q ∷ qs)) e (record { u = p; v = q; upper = in_head p ps; lower = in_head q qs; pair = refl; slot = own })

cell_from : (es : List Breakpoint) (slot p q : ℕ) (ps qs : List ℕ) → OfEither p q slot → Ahead es p q ps qs → (n : Near) → Contains (cell_pairs_from slot p q es) n → IsCellOf (p ∷ ps) (q ∷ qs) n
cell_from [] slot p q ps qs own a n c = at (contains_cases (near slot p q) n [] c)
  where
    at : (near slot p q ≡ n) ⊎ Contains [] n → IsCellOf (p ∷ ps) (q ∷ qs) n
    at (inl e) = first_cell slot p q ps qs n own e
    at (inr k) = absurd (contains_none n k)
cell_from (e ∷ es) slot p q ps qs own a n c = at (contains_cases (near slot p q) n (Tail e es p q) c) (next_of e es p q ps qs a) (cell_from es)
  where
    at : (near slot p q ≡ n) ⊎ Contains (Tail e es p q) n → Next e es p q ps qs
        → ((slot p q : ℕ) (ps qs : List ℕ) → OfEither p q slot → Ahead es p q ps qs → (n : Near) → Contains (cell_pairs_from slot p q es) n → IsCellOf (p ∷ ps) (q ∷ qs) n) → IsCellOf (p ∷ ps) (q ∷ qs) n
    at (inl f) next again = first_cell slot p q ps qs n own f
    at (inr k) (by_upper m rest f g b) again = subst (λ xs. IsCellOf (p ∷ xs) (q ∷ qs) n) (sym f) (more_upper (again (2 * m) m q rest qs (inl refl) b n (subst (λ (ns : List Near). Contains ns n) g k)))
    at (inr k) (by_lower m rest f g b) again = subst (λ xs. IsCellOf (p ∷ ps) (q ∷ xs) n) (sym f) (more_lower (again (2 * m + 1) p m ps rest (inr refl) b n (subst (λ (ns : List Near). Contains ns n) g k)))

-- ---- slots
-- the cells after the first one have slots of later points
abbrev LaterBehind : List Breakpoint → Type 0
LaterBehind es = (slot p q : ℕ) (ps qs : List ℕ) → Ahead es p q ps qs → (n : Near) → Contains (cell_pairs_from slot p q es) n → (n ≡ near slot p q) ⊎ IsLater ps qs n

behind_next : (e : Breakpoint) (es : List Breakpoint) (p q : ℕ) (ps qs : List ℕ) → Next e es p q ps qs → LaterBehind es → (n : Near) → Contains (Tail e es p q) n → IsLater ps qs n
behind_next e es p q ps qs (by_upper m rest f g b) again n k = subst (λ xs. IsLater xs qs n) (sym f) (up (again (2 * m) m q rest qs b n (subst (λ (ns : List Near). Contains ns n) g k)))
  where
    up : (n ≡ near (2 * m) m q) ⊎ IsLater rest qs n → IsLater (m ∷ rest) qs n
    up (inl h) = inl (m, in_head m rest, ap (λ (x : Near). x.slot) h)
    up (inr (inl (u, i, h))) = inl (u, in_tail u m rest i, h)
    up (inr (inr h)) = inr h
behind_next e es p q ps qs (by_lower m rest f g b) again n k = subst (λ xs. IsLater ps xs n) (sym f) (down (again (2 * m + 1) p m ps rest b n (subst (λ (ns : List Near). Contains ns n) g k)))
  where
    down : (n ≡ near (2 * m + 1) p m) ⊎ IsLater ps rest n → IsLater ps (m ∷ rest) n
    down (inl h) = inr (m, in_head m rest, ap (λ (x : Near). x.slot) h)
    down (inr (inl h)) = inl h
    down (inr (inr (v, i, h))) = inr (v, in_tail v m rest i, h)

later_behind : (es : List Breakpoint) → LaterBehind es
later_behind [] slot p q ps qs a n c = at (contains_cases (near slot p q) n [] c)
  where
    at : (near slot p q ≡ n) ⊎ Contains [] n → (n ≡ near slot p q) ⊎ IsLater ps qs n
    at (inl e) = inl (sym e)
    at (inr k) = absurd (contains_none n k)
later_behind (e ∷ es) slot p q ps qs a n c = at (contains_cases (near slot p q) n (Tail e es p q) c) (later_behind es)
  where
    at : (near slot p q ≡ n) ⊎ Contains (Tail e es p q) n → LaterBehind es → (n ≡ near slot p q) ⊎ IsLater ps qs n
    at (inl f) again = inl (sym f)
    at (inr k) again = inr (behind_next e es p q ps qs (next_of e es p q ps qs a) again n k)

-- no later cell has the slot of p and q
module _ (p q : ℕ) (ps qs : List ℕ) (once_p : AreDistinct (p ∷ ps)) (once_q : AreDistinct (q ∷ qs)) where
  clash : (slot : ℕ) (n : Near) → OfEither p q slot → IsLater ps qs n → slot ≡ n.slot → ⊥
  clash slot n (inl e) (inl (u, i, f)) g = let same : u ≡ p = omega (arith, e, f, g) in distinct_head p ps once_p (contains_from_in ps p (subst (λ x. IsIn x ps) same i))
  clash slot n (inl e) (inr (v, i, f)) g = omega (arith, e, f, g)
  clash slot n (inr e) (inl (u, i, f)) g = omega (arith, e, f, g)
  clash slot n (inr e) (inr (v, i, f)) g = let same : v ≡ q = omega (arith, e, f, g) in distinct_head q qs once_q (contains_from_in qs q (subst (λ x. IsIn x qs) same i))

abbrev pub SlotsApart : List Near → Type 0
SlotsApart cells = (m n : Near) → Contains cells m → Contains cells n → m.slot ≡ n.slot → m ≡ n

abbrev ApartAhead : List Breakpoint → Type 0
ApartAhead es = (slot p q : ℕ) (ps qs : List ℕ) → OfEither p q slot → Ahead es p q ps qs → AreDistinct (p ∷ ps) → AreDistinct (q ∷ qs) → SlotsApart (cell_pairs_from slot p q es)

apart_next : (e : Breakpoint) (es : List Breakpoint) (p q : ℕ) (ps qs : List ℕ) → Next e es p q ps qs → AreDistinct (p ∷ ps) → AreDistinct (q ∷ qs) → ApartAhead es → SlotsApart (Tail e es p q)
apart_next e es p q ps qs (by_upper m rest f g b) once_p once_q again =
    subst SlotsApart (sym g) (again (2 * m) m q rest qs (inl refl) b (subst (λ (xs : List ℕ). AreDistinct xs) f (distinct_tail p ps once_p)) once_q)
apart_next e es p q ps qs (by_lower m rest f g b) once_p once_q again =
    subst SlotsApart (sym g) (again (2 * m + 1) p m ps rest (inr refl) b once_p (subst (λ (xs : List ℕ). AreDistinct xs) f (distinct_tail q qs once_q)))

apart_ahead : (es : List Breakpoint) → ApartAhead es
apart_ahead [] slot p q ps qs own a once_p once_q m n c d g = at (contains_cases (near slot p q) m [] c) (contains_cases (near slot p q) n [] d)
  where
    at : (near slot p q ≡ m) ⊎ Contains [] m → (near slot p q ≡ n) ⊎ Contains [] n → m ≡ n
    at (inl e) (inl f) = sym e ∙ f
    at (inr k) f = absurd (contains_none m k)
    at (inl e) (inr k) = absurd (contains_none n k)
apart_ahead (e ∷ es) slot p q ps qs own a once_p once_q m n c d g = at (contains_cases (near slot p q) m (Tail e es p q) c) (contains_cases (near slot p q) n (Tail e es p q) d) (apart_ahead es)
  where
    later : (x : Near) → Contains (Tail e es p q) x → IsLater ps qs x
    later x k = behind_next e es p q ps qs (next_of e es p q ps qs a) (later_behind es) x k

    at : (near slot p q ≡ m) ⊎ Contains (Tail e es p q) m → (near slot p q ≡ n) ⊎ Contains (Tail e es p q) n → ApartAhead es → m ≡ n
    at (inl f) (inl h) again = sym f ∙ h
    at (inl f) (inr k) again = absurd (clash p q ps qs once_p once_q slot n own (later n k) (ap (λ (x : Near). x.slot) f ∙ g))
    at (inr k) (inl f) again = absurd (clash p q ps qs once_p once_q slot m own (later m k) (ap (λ (x : Near). x.slot) f ∙ sym g))
    at (inr k) (inr l) again = apart_next e es p q ps qs (next_of e es p q ps qs a) once_p once_q again m n k l g

-- ---- all cells
pub cell_of : (us vs : List ℕ) (es : List Breakpoint) → own_of A es ≡ breakpoints_of A us → own_of B es ≡ breakpoints_back vs → (n : Near) → Contains (cell_pairs us vs es) n → IsCellOf us vs n
cell_of [] vs es a b n c = absurd (contains_none n c)
cell_of (p ∷ ps) [] es a b n c = absurd (contains_none n c)
cell_of (p ∷ ps) (q ∷ qs) es a b n c = cell_from es (2 * p) p q ps qs (inl refl) (record { of_upper = a; of_lower = b }) n c

pub slots_apart : (us vs : List ℕ) (es : List Breakpoint) → own_of A es ≡ breakpoints_of A us → own_of B es ≡ breakpoints_back vs → AreDistinct us → AreDistinct vs → SlotsApart (cell_pairs us vs es)
slots_apart [] vs es a b once_u once_v m n c d g = absurd (contains_none m c)
slots_apart (p ∷ ps) [] es a b once_u once_v m n c d g = absurd (contains_none m c)
slots_apart (p ∷ ps) (q ∷ qs) es a b once_u once_v m n c d g = apart_ahead es (2 * p) p q ps qs (inl refl) (record { of_upper = a; of_lower = b }) once_u once_v m n c d g
