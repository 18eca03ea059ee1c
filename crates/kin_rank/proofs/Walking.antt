-- The first of some numbers, found part by part.
use Rattle.std.proofs.Common.{◌≡◌, refl, sym, ap, ◌∙◌, subst, arith, List, ℕ, zero, suc, ◌+◌, ◌-◌, ◌*◌, ◌/◌, ◌%◌, ◌<◌, ◌≤◌, ◌^◌, length, Option, Some, None, inl, inr}
use Rattle.std.specs.Prelude.{slice_get, ◌⊎◌}
use Rattle.std.proofs.Math.Nat.{pow-suc}
use Rattle.std.proofs.lemmas.Bool.{cases_eq, cases_lt}
use Rattle.std.proofs.lemmas.Nat.{pow-add}
use Rattle.std.proofs.lemmas.Option.{same_Some}
use Rattle.kin_rank.specs.declared.leaders.Leaders.{Leaders}
use Rattle.kin_rank.specs.Finding.{IsFirstOf, IsNoLater}
use Rattle.kin_rank.specs.Leading.{place_in}
use Rattle.kin_rank.specs.Trees.{up, at_node, IsAt, IsTree, IsUnder}
use Rattle.kin_rank.proofs.Climbing.{up_rises}
use Rattle.kin_rank.proofs.Leading.{at_height, led, under}

-- the number is under the node, and its place is greater than another
pub record IsAfter (f : List ℕ) (room height v above x : ℕ) : Type 0 where
  pub place : ℕ
  pub at : slice_get f place ≡ Some x
  pub under : up height (room + place) ≡ v
  pub after : above < place

-- ---- of a list of places
module _ (t : List ℕ) where
  pub keeps_best : (best : Option ℕ) (y : ℕ) → best ≡ Some y → IsNoLater t best y
  keeps_best best y e = record { number = y; is = e; before = omega arith }

  pub first_of_none : (best : Option ℕ) (others : ℕ → Type 0) → ((y : ℕ) → others y → ⊥) → IsFirstOf t best others best
  first_of_none best others none = record { from = λ x e. inl e; not_after_best = keeps_best best; not_after = λ y o. absurd (none y o) }

  pub first_stays : (best : Option ℕ) (others : ℕ → Type 0) (first : ℕ) → IsNoLater t best first → ((y : ℕ) → others y → place_in t first ≤ place_in t y) → IsFirstOf t best others best
  first_stays best others first n all = record {
    from = λ x e. inl e;
    not_after_best = keeps_best best;
    not_after = λ y o. record { number = n.number; is = n.is; before = let a = n.before in let b = all y o in omega arith };
  }

  pub first_is : (best : Option ℕ) (others : ℕ → Type 0) (x : ℕ) → others x → ((y : ℕ) → best ≡ Some y → place_in t x ≤ place_in t y) → ((y : ℕ) → others y → place_in t x ≤ place_in t y)
      → IsFirstOf t best others (Some x)
  first_is best others x o better all = record {
    from = λ y e. inr (subst others (same_Some x y e) o);
    not_after_best = λ y e. record { number = x; is = refl; before = better y e };
    not_after = λ y p. record { number = x; is = refl; before = all y p };
  }

  pub first_of_two : (best middle result : Option ℕ) (some more all : ℕ → Type 0) → IsFirstOf t best some middle → IsFirstOf t middle more result → ((y : ℕ) → some y → all y)
      → ((y : ℕ) → more y → all y) → ((y : ℕ) → all y → some y ⊎ more y) → IsFirstOf t best all result
  first_of_two best middle result some more all a b f g h = record {
    from = λ x e. elim (b.from x e) [
      | inl m ↦ elim (a.from x m) [
        | inl k ↦ inl k
        | inr k ↦ inr (f x k)
      ]
      | inr k ↦ inr (g x k)
    ];
    not_after_best = λ y e. after_it y (a.not_after_best y e);
    not_after = λ y o. elim (h y o) [
      | inl p ↦ after_it y (a.not_after y p)
      | inr p ↦ b.not_after y p
    ];
  }
    where
      after_it : (y : ℕ) → IsNoLater t middle y → IsNoLater t result y
      after_it y n = let m = b.not_after_best n.number n.is in record { number = m.number; is = m.is; before = let k = m.before in let l = n.before in omega arith }

  -- of the same numbers
  pub first_same : (best result : Option ℕ) (some all : ℕ → Type 0) → IsFirstOf t best some result → ((y : ℕ) → some y → all y) → ((y : ℕ) → all y → some y) → IsFirstOf t best all result
  first_same best result some all a f g = record {
    from = λ x e. elim (a.from x e) [
      | inl k ↦ inl k
      | inr k ↦ inr (f x k)
    ];
    not_after_best = a.not_after_best;
    not_after = λ y o. a.not_after y (g y o);
  }

-- ---- of the numbers under a node
module _ (f g t : List ℕ) (nodes : List (Option Leaders)) (tree : IsTree f g t nodes) (room : ℕ) (wide : length g ≡ room) (some : 0 < room) (above : ℕ) where
  abbrev There : ℕ → ℕ → ℕ → Type 0
  There h v x = IsUnder f room h v x × (above < place_in g x)

  known : (h v : ℕ) → IsAt room h v → IsAt (length g) h v
  known h v a = subst (λ (n : ℕ). IsAt n h v) (sym wide) a

  bottom : 0 < length g
  bottom = subst (λ (n : ℕ). 0 < n) (sym wide) some

  -- a node without numbers
  pub none_there : (h v : ℕ) → IsAt room h v → at_node nodes v ≡ None → (y : ℕ) → There h v y → ⊥
  none_there h v a e y u = absurd (let l = led f g t nodes tree bottom h v y (known h v a) (subst (λ (n : ℕ). IsUnder f n h v y) (sym wide) u.0) in let n : None ≡ Some l.leaders = sym e ∙ l.is
      in cc)

  -- a node whose last number in G isn't after the place
  pub none_after : (h v : ℕ) (l : Leaders) → IsAt room h v → at_node nodes v ≡ Some l → place_in g l.last_in_g ≤ above → (y : ℕ) → There h v y → ⊥
  none_after h v l a e low y u =
      let k = led f g t nodes tree bottom h v y (known h v a) (subst (λ (n : ℕ). IsUnder f n h v y) (sym wide) u.0) in
      let s : l ≡ k.leaders = same_Some l k.leaders (sym e ∙ k.is) in
      let last = k.last in
      let same = ap (λ (m : Leaders). place_in g m.last_in_g) s in
      let high = u.1 in
      absurd (omega (arith, last, same, high, low))

  -- none is before the first one in T
  pub all_after : (h v : ℕ) (l : Leaders) → IsAt room h v → at_node nodes v ≡ Some l → (y : ℕ) → There h v y → place_in t l.first_in_t ≤ place_in t y
  all_after h v l a e y u =
      let k = led f g t nodes tree bottom h v y (known h v a) (subst (λ (n : ℕ). IsUnder f n h v y) (sym wide) u.0) in
      let s : l ≡ k.leaders = same_Some l k.leaders (sym e ∙ k.is) in
      let first = k.first in
      let same = ap (λ (m : Leaders). place_in t m.first_in_t) s in
      omega (arith, first, same)

  -- a leaf has one number
  pub leaf_there : (h v : ℕ) (l : Leaders) → h ≡ 0 → IsAt room h v → at_node nodes v ≡ Some l → above < place_in g l.last_in_g → There h v l.first_in_t
  leaf_there h v l z a e low =
      let u = under f g t nodes tree bottom h v l (known h v a) e in
      let here : up h (length g + u.0.place) ≡ up h (length g + u.1.place) = u.0.above ∙ sym u.1.above in
      let same : length g + u.0.place ≡ length g + u.1.place = subst (λ (n : ℕ). up n (length g + u.0.place) ≡ up n (length g + u.1.place)) z here in
      let one : u.0.place ≡ u.1.place = omega (arith, same) in
      let number : l.last_in_g ≡ l.first_in_t = same_Some l.last_in_g l.first_in_t (sym u.0.at ∙ ap (slice_get f) one ∙ u.1.at) in
      (subst (λ (n : ℕ). IsUnder f n h v l.first_in_t) wide u.1, subst (λ (n : ℕ). above < place_in g n) number low)

-- the two halves of a node
pub halves : (room h k v : ℕ) → suc k ≡ h → IsAt room h v → IsAt room k (2 * v) × IsAt room k (2 * v + 1)
halves room h k v e a = subst (λ (n : ℕ). IsAt room n v) (sym e) a

pub one_up : (f : List ℕ) (room h k v w x : ℕ) → suc k ≡ h → w / 2 ≡ v → IsUnder f room k w x → IsUnder f room h v x
one_up f room h k v w x s e u = subst (λ (n : ℕ). IsUnder f room n v x) s (record { place = u.place; at = u.at; above = ap (λ (n : ℕ). n / 2) u.above ∙ e })

pub one_down : (f : List ℕ) (room h k v x : ℕ) → suc k ≡ h → IsUnder f room h v x → IsUnder f room k (2 * v) x ⊎ IsUnder f room k (2 * v + 1) x
one_down f room h k v x s u = elim (cases_eq (up k (room + u.place)) (2 * v)) [
  | inl l ↦ inl (record { place = u.place; at = u.at; above = l })
  | inr n ↦ inr (record { place = u.place; at = u.at; above = (let e : up k (room + u.place) / 2 ≡ v = ap (λ (m : ℕ). up m (room + u.place)) s ∙ u.above in omega (arith, e, n)) })
]

-- ---- the way up from a leaf
pub level_bounds : (h j l : ℕ) → 2 ^ (j + h) ≤ l → l < 2 * 2 ^ (j + h) → (2 ^ j ≤ up h l) × (up h l < 2 * 2 ^ j)
level_bounds zero j l a b = (subst (λ (n : ℕ). 2 ^ n ≤ l) zero_last a, subst (λ (n : ℕ). l < 2 * 2 ^ n) zero_last b)
  where
    zero_last : j + zero ≡ j
    zero_last = omega arith
level_bounds (suc h) j l a b =
    let e : j + suc h ≡ suc j + h = omega arith in
    let r = level_bounds h (suc j) l (subst (λ (n : ℕ). 2 ^ n ≤ l) e a) (subst (λ (n : ℕ). l < 2 * 2 ^ n) e b) in
    let p = pow-suc 2 j in
    (let x = r.0 in omega (arith, x, p), let x = r.1 in omega (arith, x, p))

-- the node beside an even one of the same height
pub beside : (s h l : ℕ) → h < s → 2 ^ s ≤ l → l < 2 * 2 ^ s → up h l % 2 ≡ 0 → IsAt (2 ^ s) h (up h l + 1)
beside s h l low a b even =
    let j = s - h in
    let e : j + h ≡ s = omega (arith, low) in
    let r = level_bounds h j l (subst (λ (n : ℕ). 2 ^ n ≤ l) (sym e) a) (subst (λ (n : ℕ). l < 2 * 2 ^ n) (sym e) b) in
    let whole : 2 ^ j * 2 ^ h ≡ 2 ^ s = sym (pow-add 2 j h) ∙ ap (λ (n : ℕ). 2 ^ n) e in
    subst (λ (n : ℕ). IsAt n h (up h l + 1)) whole (at_height h (2 ^ j) (up h l + 1) (let x = r.0 in omega (arith, x)) (let x = r.1 in omega (arith, x, even)))

pub at_root : (s l : ℕ) → 2 ^ s ≤ l → l < 2 * 2 ^ s → up s l ≡ 1
at_root s l a b = let r = level_bounds s zero l (subst (λ (n : ℕ). 2 ^ n ≤ l) first a) (subst (λ (n : ℕ). l < 2 * 2 ^ n) first b) in let x = r.0 in let y = r.1 in omega (arith, x, y)
  where
    first : s ≡ zero + s
    first = omega arith

module _ (f : List ℕ) (room above h k v : ℕ) (step : suc h ≡ k) (way : v ≡ up h (room + above)) where
  raised : (x : ℕ) → up h x / 2 ≡ up k x
  raised x = ap (λ (n : ℕ). up n x) step

  -- places that are after another are under no node to the left
  rises : (p : ℕ) → above < p → v ≤ up h (room + p)
  rises p l = subst (λ (n : ℕ). n ≤ up h (room + p)) (sym way) (up_rises h (room + above) (room + p) (omega (arith, l)))

  pub after_up : (x : ℕ) → IsAfter f room h v above x → IsAfter f room k (v / 2) above x
  after_up x a = record { place = a.place; at = a.at; under = sym (raised (room + a.place)) ∙ ap (λ (n : ℕ). n / 2) a.under; after = a.after }

  pub beside_up : (x : ℕ) → v % 2 ≡ 0 → IsUnder f room h (v + 1) x → IsAfter f room k (v / 2) above x
  beside_up x even u = record {
    place = u.place;
    at = u.at;
    under = sym (raised (room + u.place)) ∙ ap (λ (n : ℕ). n / 2) u.above ∙ omega (arith, even);
    after = elim (cases_lt above u.place) [
      | inl l ↦ l
      | inr l ↦ absurd (let r = up_rises h (room + u.place) (room + above) (omega (arith, l)) in let e = u.above in omega (arith, r, e, way))
    ];
  }

  pub after_down : (x : ℕ) → IsAfter f room k (v / 2) above x → IsAfter f room h v above x ⊎ IsUnder f room h (v + 1) x
  after_down x a =
      let half : up h (room + a.place) / 2 ≡ v / 2 = raised (room + a.place) ∙ a.under in
      let low = rises a.place a.after in
      elim (cases_eq (up h (room + a.place)) v) [
        | inl e ↦ inl (record { place = a.place; at = a.at; under = e; after = a.after })
        | inr n ↦ inr (record { place = a.place; at = a.at; above = omega (arith, half, low, n) })
      ]

  pub after_odd : (x : ℕ) → (v % 2 ≡ 0 → ⊥) → IsAfter f room k (v / 2) above x → IsAfter f room h v above x
  after_odd x odd a =
      let half : up h (room + a.place) / 2 ≡ v / 2 = raised (room + a.place) ∙ a.under in
      let low = rises a.place a.after in
      record { place = a.place; at = a.at; under = omega (arith, half, low, odd); after = a.after }
