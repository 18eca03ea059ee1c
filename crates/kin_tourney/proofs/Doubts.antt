-- Doubts that spread upwards.
use Rattle.std.proofs.Common.{◌≡◌, ◌≢◌, ◌⊎◌, inl, inr, refl, sym, ap, ◌∙◌, arith, List, ℕ, zero, suc, ◌+◌, ◌*◌, ◌/◌, ◌^◌, ◌<◌, ◌≤◌, length, Bool, true, false, cond, nat_eq, set, slice_index_or}
use Rattle.std.proofs.lemmas.Bool.Decides.{nat_tests}
use Rattle.std.proofs.lemmas.List.{get_or-set_same, get_or-set_other, get_or_past, get_or_default, length-set}
use Rattle.std.proofs.lemmas.List.Sums.{sum_by-set, get_or-le-sum_by}
use Rattle.std.proofs.lemmas.Nat.{pow-add}
use Rattle.std.proofs.lemmas.Bool.{cases_eq}
use Rattle.kin_motion.specs.declared.fact.Placed.{Placed}
use Rattle.kin_tourney.proofs.AfterWrite.{read_set}
use Rattle.kin_tourney.specs.declared.doubt.Doubt.{Doubt}
use Rattle.kin_tourney.specs.declared.doubt.Doubt.TheVariants.{Clear, Below, Here}
use Rattle.kin_tourney.specs.Standings.{doubt_in, doubt_count, is_doubt, IsClosed}
use Rattle.kin_tourney.specs.Repairs.{IsSpread, IsDoubted}

pub doubt_cases : (d : Doubt) → (d ≡ Clear) ⊎ (d ≢ Clear)
doubt_cases Clear = inl refl
doubt_cases Below = inr (λ e. absurd cc)
doubt_cases Here = inr (λ e. absurd cc)

pub here_is_doubt : Here ≢ Clear
here_is_doubt e = absurd cc

abbrev pub weight : Doubt → ℕ
weight d = cond (is_doubt d) 1 0

weight_of_doubt : (d : Doubt) → d ≢ Clear → weight d ≡ 1
weight_of_doubt Clear n = absurd (n refl)
weight_of_doubt Below n = refl
weight_of_doubt Here n = refl

counted_set : (ds : List Doubt) (v : ℕ) (d : Doubt) → v < length ds → doubt_count (set ds v d) + weight (doubt_in ds v) ≡ doubt_count ds + weight d
counted_set ds v d inside = sum_by-set weight ds v d Clear inside

-- a clear node comes into doubt
pub count_raised : (ds : List Doubt) (v : ℕ) (d : Doubt) → v < length ds → doubt_in ds v ≡ Clear → d ≢ Clear → doubt_count (set ds v d) ≡ doubt_count ds + 1
count_raised ds v d inside e n =
    let k = counted_set ds v d inside in
    let old : weight (doubt_in ds v) ≡ 0 = ap weight e in
    let new = weight_of_doubt d n in omega arith

-- a node in doubt changes its doubt
pub count_kept : (ds : List Doubt) (v : ℕ) (d : Doubt) → v < length ds → doubt_in ds v ≢ Clear → d ≢ Clear → doubt_count (set ds v d) ≡ doubt_count ds
count_kept ds v d inside m n =
    let k = counted_set ds v d inside in
    let old = weight_of_doubt (doubt_in ds v) m in
    let new = weight_of_doubt d n in omega arith

-- a node in doubt is cleared
pub count_lowered : (ds : List Doubt) (v : ℕ) → v < length ds → doubt_in ds v ≢ Clear → doubt_count (set ds v Clear) + 1 ≡ doubt_count ds
count_lowered ds v inside m =
    let k = counted_set ds v Clear inside in
    let old = weight_of_doubt (doubt_in ds v) m in
    let new : weight Clear ≡ 0 = refl in omega arith

pub count_top : (ds : List Doubt) → doubt_in ds 0 ≡ Here → 0 < doubt_count ds
count_top ds top = at (nat_eq (length ds) 0) refl
  where
    at : (t : Bool) → nat_eq (length ds) 0 ≡ t → 0 < doubt_count ds
    at true e =
        let none : length ds ≤ 0 = grind (arith, nat_tests, e) in
        absurd (let k : Clear ≡ Here = sym (get_or_past ds 0 Clear none) ∙ top in cc)
    at false e =
        let some : 0 < length ds = grind (arith, nat_tests, e) in
        let k = get_or-le-sum_by weight ds 0 Clear some in
        let new : weight (doubt_in ds 0) ≡ 1 = ap weight top in omega arith

-- ---- upwards until a node is in doubt already
pub record IsSpreading (old now : List Doubt) (doubt : Doubt) (node at : ℕ) : Type 0 where
  pub room : length now ≡ length old
  pub low : at ≤ node
  pub top : doubt_in now 0 ≡ Here
  pub below : (v : ℕ) → 0 < v → doubt_in now (v / 2) ≡ Clear → (doubt_in now v ≡ Clear) ⊎ (v / 2 ≡ at)
  pub each : (v : ℕ) → (doubt_in now v ≡ doubt_in old v) ⊎ ((doubt_in old v ≡ Clear) × (doubt_in now v ≡ doubt))
  pub reached : (node ≡ at) ⊎ (doubt_in now node ≢ Clear)
  pub few : (height : ℕ) → node < 2 ^ height → (k : ℕ) × (at < 2 ^ k) × (doubt_count now + k ≤ doubt_count old + height)

pub spreading_starts : (old : List Doubt) (doubt : Doubt) (node : ℕ) → IsClosed old → IsSpreading old old doubt node node
spreading_starts old doubt node closed = record {
  room = refl;
  low = omega arith;
  top = closed.top;
  below = λ v big e. inl (closed.below v big e);
  each = λ v. inl refl;
  reached = inl refl;
  few = λ height inside. (height, inside, omega arith);
}

halved_below : (v k : ℕ) → v < 2 ^ suc k → v / 2 < 2 ^ k
halved_below v k inside = let p = pow-add 2 k 1 in let q : 2 ^ suc k ≡ 2 ^ (k + 1) = ap (λ (j : ℕ). 2 ^ j) (let r : suc k ≡ k + 1 = omega arith in r) in omega arith

module _ (old now : List Doubt) (doubt : Doubt) (node at : ℕ) (n : doubt ≢ Clear) (inside : node < length old) (h : IsSpreading old now doubt node at) (clear : doubt_in now at ≡ Clear) where
  here : at < length now
  here = let r = h.room in let l = h.low in omega arith

  pub not_top : 0 < at
  not_top = known (nat_eq at 0) refl
    where
      known : (t : Bool) → nat_eq at 0 ≡ t → 0 < at
      known true e = let z : at ≡ 0 = grind (arith, nat_tests, e) in absurd (here_is_doubt (sym h.top ∙ ap (doubt_in now) (sym z) ∙ clear))
      known false e = grind (arith, nat_tests, e)

  seen : (v : ℕ) → (nat_eq v at ≡ true) × (doubt_in (set now at doubt) v ≡ doubt) × (v ≡ at) ⊎ (doubt_in (set now at doubt) v ≡ doubt_in now v) × (v ≢ at)
  seen v = known (nat_eq v at) refl
    where
      known : (t : Bool) → nat_eq v at ≡ t → (nat_eq v at ≡ true) × (doubt_in (set now at doubt) v ≡ doubt) × (v ≡ at) ⊎ (doubt_in (set now at doubt) v ≡ doubt_in now v) × (v ≢ at)
      known true e = let z : v ≡ at = grind (arith, nat_tests, e) in inl (e, ap (doubt_in (set now at doubt)) z ∙ get_or-set_same now at doubt Clear here, z)
      known false e = let z : v ≢ at = grind (arith, nat_tests, e) in inr (get_or-set_other now at v doubt Clear z, z)

  pub spreading_on : IsSpreading old (set now at doubt) doubt node (at / 2)
  spreading_on = record {
    room = length-set now at doubt ∙ h.room;
    low = let l = h.low in omega arith;
    top = get_or-set_other now at 0 doubt Clear (let z = not_top in omega arith) ∙ h.top;
    below = below_next;
    each = λ v. each_next v (seen v);
    reached = reached_next h.reached;
    few = λ height low. few_next height (h.few height low);
  }
    where
      below_next : (v : ℕ) → 0 < v → doubt_in (set now at doubt) (v / 2) ≡ Clear → (doubt_in (set now at doubt) v ≡ Clear) ⊎ (v / 2 ≡ at / 2)
      below_next v big e = up (seen (v / 2))
        where
          old_way : v / 2 ≢ at → (doubt_in now v ≡ Clear) ⊎ (v / 2 ≡ at) → (doubt_in (set now at doubt) v ≡ Clear) ⊎ (v / 2 ≡ at / 2)
          old_way other (inr z) = absurd (other z)
          old_way other (inl z) = own (seen v)
            where
              own : (nat_eq v at ≡ true) × (doubt_in (set now at doubt) v ≡ doubt) × (v ≡ at) ⊎ (doubt_in (set now at doubt) v ≡ doubt_in now v) × (v ≢ at) → (doubt_in (set now at doubt) v ≡ Clear) ⊎ (v / 2 ≡ at / 2)
              own (inl k) = inr (ap (λ u. u / 2) k.2)
              own (inr k) = inl (k.0 ∙ z)

          up : (nat_eq (v / 2) at ≡ true) × (doubt_in (set now at doubt) (v / 2) ≡ doubt) × (v / 2 ≡ at) ⊎ (doubt_in (set now at doubt) (v / 2) ≡ doubt_in now (v / 2)) × (v / 2 ≢ at) → (doubt_in (set now at doubt) v ≡ Clear) ⊎ (v / 2 ≡ at / 2)
          up (inl k) = absurd (n (sym k.1 ∙ e))
          up (inr k) = old_way k.1 (h.below v big (sym k.0 ∙ e))

      each_next : (v : ℕ) → (nat_eq v at ≡ true) × (doubt_in (set now at doubt) v ≡ doubt) × (v ≡ at) ⊎ (doubt_in (set now at doubt) v ≡ doubt_in now v) × (v ≢ at)
          → (doubt_in (set now at doubt) v ≡ doubt_in old v) ⊎ ((doubt_in old v ≡ Clear) × (doubt_in (set now at doubt) v ≡ doubt))
      each_next v (inl k) = was (h.each v)
        where
          was : (doubt_in now v ≡ doubt_in old v) ⊎ ((doubt_in old v ≡ Clear) × (doubt_in now v ≡ doubt)) → (doubt_in (set now at doubt) v ≡ doubt_in old v) ⊎ ((doubt_in old v ≡ Clear) × (doubt_in (set now at doubt) v ≡ doubt))
          was (inl same) = inr (sym same ∙ ap (doubt_in now) k.2 ∙ clear, k.1)
          was (inr both) = inr (both.0, k.1)
      each_next v (inr k) = was (h.each v)
        where
          was : (doubt_in now v ≡ doubt_in old v) ⊎ ((doubt_in old v ≡ Clear) × (doubt_in now v ≡ doubt)) → (doubt_in (set now at doubt) v ≡ doubt_in old v) ⊎ ((doubt_in old v ≡ Clear) × (doubt_in (set now at doubt) v ≡ doubt))
          was (inl same) = inl (k.0 ∙ same)
          was (inr both) = inr (both.0, k.0 ∙ both.1)

      reached_next : (node ≡ at) ⊎ (doubt_in now node ≢ Clear) → (node ≡ at / 2) ⊎ (doubt_in (set now at doubt) node ≢ Clear)
      reached_next r = own (seen node) r
        where
          own : (nat_eq node at ≡ true) × (doubt_in (set now at doubt) node ≡ doubt) × (node ≡ at) ⊎ (doubt_in (set now at doubt) node ≡ doubt_in now node) × (node ≢ at) → (node ≡ at) ⊎ (doubt_in now node ≢ Clear) → (node ≡ at / 2) ⊎ (doubt_in (set now at doubt) node ≢ Clear)
          own (inl k) r = inr (λ e. n (sym k.1 ∙ e))
          own (inr k) (inl same) = absurd (k.1 same)
          own (inr k) (inr m) = inr (λ e. m (sym k.0 ∙ e))

      few_next : (height : ℕ) → (k : ℕ) × (at < 2 ^ k) × (doubt_count now + k ≤ doubt_count old + height) → (k : ℕ) × (at / 2 < 2 ^ k) × (doubt_count (set now at doubt) + k ≤ doubt_count old + height)
      few_next height (zero, a, b) = absurd (let z = not_top in let one : 2 ^ 0 ≡ 1 = refl in omega arith)
      few_next height (suc k, a, b) = (k, halved_below at k a, let c = count_raised now at doubt here clear n in omega arith)

pub spreading_ends : (old now : List Doubt) (doubt : Doubt) (node at : ℕ) → IsSpreading old now doubt node at → doubt_in now at ≢ Clear → IsClosed now × IsSpread old now doubt node
spreading_ends old now doubt node at h m = (
  record { top = h.top; below = λ v big e. stop v e (h.below v big e) },
  record { room = h.room; reached = ended h.reached; each = h.each; few = λ height low. enough height (h.few height low) },
)
  where
    stop : (v : ℕ) → doubt_in now (v / 2) ≡ Clear → (doubt_in now v ≡ Clear) ⊎ (v / 2 ≡ at) → doubt_in now v ≡ Clear
    stop v e (inl z) = z
    stop v e (inr z) = absurd (m (sym (ap (doubt_in now) z) ∙ e))

    ended : (node ≡ at) ⊎ (doubt_in now node ≢ Clear) → doubt_in now node ≢ Clear
    ended (inl z) = λ e. m (sym (ap (doubt_in now) z) ∙ e)
    ended (inr z) = z

    enough : (height : ℕ) → (k : ℕ) × (at < 2 ^ k) × (doubt_count now + k ≤ doubt_count old + height) → doubt_count now ≤ doubt_count old + height
    enough height (k, a, b) = omega arith

-- ---- a node in doubt changes its doubt
pub closed_raised : (ds : List Doubt) (node : ℕ) → IsClosed ds → node < length ds → doubt_in ds node ≢ Clear → IsClosed (set ds node Here)
closed_raised ds node closed inside m = record { top = top_next (read_set ds node 0 Here Clear inside); below = λ v big e. next v big e (read_set ds node (v / 2) Here Clear inside) (read_set ds node v Here Clear inside) }
  where
    top_next : ((0 ≡ node) × (doubt_in (set ds node Here) 0 ≡ Here)) ⊎ ((0 ≢ node) × (doubt_in (set ds node Here) 0 ≡ doubt_in ds 0)) → doubt_in (set ds node Here) 0 ≡ Here
    top_next (inl k) = k.1
    top_next (inr k) = k.1 ∙ closed.top

    next : (v : ℕ) → 0 < v → doubt_in (set ds node Here) (v / 2) ≡ Clear
        → ((v / 2 ≡ node) × (doubt_in (set ds node Here) (v / 2) ≡ Here)) ⊎ ((v / 2 ≢ node) × (doubt_in (set ds node Here) (v / 2) ≡ doubt_in ds (v / 2)))
        → ((v ≡ node) × (doubt_in (set ds node Here) v ≡ Here)) ⊎ ((v ≢ node) × (doubt_in (set ds node Here) v ≡ doubt_in ds v))
        → doubt_in (set ds node Here) v ≡ Clear
    next v big e (inl k) _ = absurd (here_is_doubt (sym k.1 ∙ e))
    next v big e (inr k) (inl j) = absurd (m (sym (ap (doubt_in ds) j.0) ∙ closed.below v big (sym k.1 ∙ e)))
    next v big e (inr k) (inr j) = j.1 ∙ closed.below v big (sym k.1 ∙ e)

-- a node whose halves are clear becomes clear
pub closed_cleared : (ds : List Doubt) (node : ℕ) → IsClosed ds → 0 < node → node < length ds → ((v : ℕ) → 0 < v → v / 2 ≡ node → doubt_in ds v ≡ Clear) → IsClosed (set ds node Clear)
closed_cleared ds node closed some inside halves = record {
  top = get_or-set_other ds node 0 Clear Clear (omega arith) ∙ closed.top;
  below = λ v big e. below v big e (read_set ds node (v / 2) Clear Clear inside) (read_set ds node v Clear Clear inside);
}
  where
    below : (v : ℕ) → 0 < v → doubt_in (set ds node Clear) (v / 2) ≡ Clear
        → ((v / 2 ≡ node) × (doubt_in (set ds node Clear) (v / 2) ≡ Clear)) ⊎ ((v / 2 ≢ node) × (doubt_in (set ds node Clear) (v / 2) ≡ doubt_in ds (v / 2)))
        → ((v ≡ node) × (doubt_in (set ds node Clear) v ≡ Clear)) ⊎ ((v ≢ node) × (doubt_in (set ds node Clear) v ≡ doubt_in ds v))
        → doubt_in (set ds node Clear) v ≡ Clear
    below v big e up (inl k) = k.1
    below v big e (inl j) (inr k) = k.1 ∙ halves v big j.0
    below v big e (inr j) (inr k) = k.1 ∙ closed.below v big (sym j.1 ∙ e)

module _ (old now mid : List Doubt) (failed : List Placed) (i : ℕ) (d : Placed) (within : i < length failed)
    (h : IsDoubted old now failed i) (inside : (slice_index_or failed i d).part < length old) (closed : IsClosed mid) (spread : IsSpread now mid Below (slice_index_or failed i d).part) where
  abbrev part : ℕ
  part = (slice_index_or failed i d).part

  fits : part < length mid
  fits = let r = spread.room in let q = h.room in omega arith

  still_here : (v : ℕ) → doubt_in now v ≡ Here → doubt_in mid v ≡ Here
  still_here v e = at (spread.each v)
    where
      at : (doubt_in mid v ≡ doubt_in now v) ⊎ ((doubt_in now v ≡ Clear) × (doubt_in mid v ≡ Below)) → doubt_in mid v ≡ Here
      at (inl same) = same ∙ e
      at (inr both) = absurd (here_is_doubt (sym e ∙ both.0))

  here_next : (v : ℕ) → doubt_in now v ≡ Here → doubt_in (set mid part Here) v ≡ Here
  here_next v e = at (read_set mid part v Here Clear fits)
    where
      at : ((v ≡ part) × (doubt_in (set mid part Here) v ≡ Here)) ⊎ ((v ≢ part) × (doubt_in (set mid part Here) v ≡ doubt_in mid v)) → doubt_in (set mid part Here) v ≡ Here
      at (inl k) = k.1
      at (inr k) = k.1 ∙ still_here v e

  kept_next : (v : ℕ) → doubt_in (set mid part Here) v ≡ Clear → doubt_in now v ≡ Clear
  kept_next v e = at (read_set mid part v Here Clear fits)
    where
      was : doubt_in mid v ≡ Clear → (doubt_in mid v ≡ doubt_in now v) ⊎ ((doubt_in now v ≡ Clear) × (doubt_in mid v ≡ Below)) → doubt_in now v ≡ Clear
      was c (inl same) = sym same ∙ c
      was c (inr both) = both.0

      at : ((v ≡ part) × (doubt_in (set mid part Here) v ≡ Here)) ⊎ ((v ≢ part) × (doubt_in (set mid part Here) v ≡ doubt_in mid v)) → doubt_in now v ≡ Clear
      at (inl k) = absurd (here_is_doubt (sym k.1 ∙ e))
      at (inr k) = was (sym k.1 ∙ e) (spread.each v)

  failed_next : (k : ℕ) (x : Placed) → k < i + 1 → doubt_in (set mid part Here) (slice_index_or failed k x).part ≡ Here
  failed_next k x low = at (cases_eq k i)
    where
      at : (k ≡ i) ⊎ (k ≢ i) → doubt_in (set mid part Here) (slice_index_or failed k x).part ≡ Here
      at (inl e) =
          let same : (slice_index_or failed k x).part ≡ part = ap (λ j. (slice_index_or failed j x).part) e ∙ ap (λ (p : Placed). p.part) (get_or_default failed i x d within) in
          ap (doubt_in (set mid part Here)) same ∙ get_or-set_same mid part Here Clear fits
      at (inr n) = here_next (slice_index_or failed k x).part (h.failed_here k x (omega arith))

  pub doubted_on : IsClosed (set mid part Here) × IsDoubted old (set mid part Here) failed (i + 1)
  doubted_on = (
    closed_raised mid part closed fits spread.reached,
    record {
      room = length-set mid part Here ∙ spread.room ∙ h.room;
      failed_here = failed_next;
      here_kept = λ v e. here_next v (h.here_kept v e);
      kept = λ v e. h.kept v (kept_next v e);
      few = λ height low. enough height low;
    },
  )
    where
      enough : (height : ℕ) → length old ≤ 2 ^ height → doubt_count (set mid part Here) ≤ doubt_count old + height * (i + 1)
      enough height low =
          let c = count_kept mid part Here fits spread.reached here_is_doubt in
          let a = spread.few height (omega arith) in
          let b = h.few height low in
          let m : height * (i + 1) ≡ height * i + height = omega arith in omega arith

pub doubted_none : (old : List Doubt) (failed : List Placed) → IsDoubted old old failed 0
doubted_none old failed = record {
  room = refl;
  failed_here = λ k x low. absurd (omega arith);
  here_kept = λ v e. e;
  kept = λ v e. e;
  few = λ height low. omega arith;
}
