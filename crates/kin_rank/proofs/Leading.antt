-- The law of the nodes: the leaders of a node are those of the numbers at the places under it.
use Rattle.std.proofs.Common.{◌≡◌, refl, sym, ap, ◌∙◌, subst, arith, List, ℕ, zero, suc, ◌+◌, ◌*◌, ◌/◌, ◌<◌, ◌≤◌, ◌^◌, ◌-◌, Bool, true, false, cond, nat_lt, length, get_or, Option, Some, None, inl, inr}
use Rattle.std.specs.Prelude.{slice_get, option_map, ◌⊎◌}
use Rattle.std.proofs.Math.Nat.{pow-suc}
use Rattle.std.proofs.lemmas.Bool.{cases_eq, cases_lt}
use Rattle.std.proofs.lemmas.Bool.Decides.{nat_tests}
use Rattle.std.proofs.lemmas.Nat.{pow-add}
use Rattle.kin_rank.specs.declared.leaders.Leaders.{Leaders}
use Rattle.kin_rank.specs.Leading.{sole, place_in, later, earlier, joined}
use Rattle.kin_rank.specs.Trees.{up, at_node, joined_at, leaf, IsTree, IsAt, IsUnder}

-- ---- heights
twice : (m x : ℕ) → (2 * m) * x ≡ m * (2 * x)
twice m x = omega arith

pub at_height : (h m v : ℕ) → m ≤ v → v < 2 * m → IsAt (m * 2 ^ h) h v
at_height zero m v l u = (omega arith, omega arith)
at_height (suc h) m v l u =
    let q : 2 * 2 ^ h ≡ 2 ^ suc h = let p = pow-suc 2 h in omega (arith, p) in
    let e : (2 * m) * 2 ^ h ≡ m * 2 ^ suc h = twice m (2 ^ h) ∙ ap (λ (n : ℕ). m * n) q in
    subst (λ (n : ℕ). IsAt n h (2 * v) × IsAt n h (2 * v + 1)) e (at_height h (2 * m) (2 * v) (omega arith) (omega arith), at_height h (2 * m) (2 * v + 1) (omega arith) (omega arith))

pub at_bounds : (room h v : ℕ) → 0 < room → IsAt room h v → (0 < v) × (v < 2 * room)
at_bounds room zero v some a = (let l = a.0 in omega (arith, l, some), a.1)
at_bounds room (suc h) v some a = let l = at_bounds room h (2 * v) some a.0 in (let b = l.0 in omega (arith, b), let b = l.1 in omega (arith, b))

pub at_inner : (room h v : ℕ) → 0 < room → IsAt room (suc h) v → (0 < v) × (v < room)
at_inner room h v some a = let l = at_bounds room h (2 * v) some a.0 in (let b = l.0 in omega (arith, b), let b = l.1 in omega (arith, b))

level_of : (s u : ℕ) → 0 < u → u < 2 ^ s → (j : ℕ) × (h : ℕ) × (j + suc h ≡ s) × (2 ^ j ≤ u) × (u < 2 * 2 ^ j)
level_of zero u some low = absurd (omega arith)
level_of (suc s) u some low = elim (cases_lt u (2 ^ s)) [
  | inl l ↦ (let r = level_of s u some l in (r.0, suc r.1, let e = r.2 in omega (arith, e), r.3, r.4))
  | inr l ↦ (s, zero, omega arith, l, let p = pow-suc 2 s in omega (arith, p, low))
]

pub height_of : (s u : ℕ) → 0 < u → u < 2 ^ s → (h : ℕ) × IsAt (2 ^ s) (suc h) u
height_of s u some low =
    let r = level_of s u some low in
    let e : 2 ^ r.0 * 2 ^ suc r.1 ≡ 2 ^ s = sym (pow-add 2 r.0 (suc r.1)) ∙ ap (λ (n : ℕ). 2 ^ n) r.2 in
    (r.1, subst (λ (n : ℕ). IsAt n (suc r.1) u) e (at_height (suc r.1) (2 ^ r.0) u r.3 r.4))

-- ---- of two numbers
later_is : (g : List ℕ) (a b : ℕ) → ((later g a b ≡ a) ⊎ (later g a b ≡ b)) × (place_in g a ≤ place_in g (later g a b)) × (place_in g b ≤ place_in g (later g a b))
later_is g a b = at (nat_lt (get_or g a 0) (get_or g b 0)) refl
  where
    at : (c : Bool) → nat_lt (get_or g a 0) (get_or g b 0) ≡ c → ((cond c b a ≡ a) ⊎ (cond c b a ≡ b)) × (place_in g a ≤ place_in g (cond c b a)) × (place_in g b ≤ place_in g (cond c b a))
    at true e = (inr refl, grind (arith, nat_tests, e), omega arith)
    at false e = (inl refl, omega arith, grind (arith, nat_tests, e))

earlier_is : (g : List ℕ) (a b : ℕ) → ((earlier g a b ≡ a) ⊎ (earlier g a b ≡ b)) × (place_in g (earlier g a b) ≤ place_in g a) × (place_in g (earlier g a b) ≤ place_in g b)
earlier_is g a b = at (nat_lt (get_or g b 0) (get_or g a 0)) refl
  where
    at : (c : Bool) → nat_lt (get_or g b 0) (get_or g a 0) ≡ c → ((cond c b a ≡ a) ⊎ (cond c b a ≡ b)) × (place_in g (cond c b a) ≤ place_in g a) × (place_in g (cond c b a) ≤ place_in g b)
    at true e = (inr refl, grind (arith, nat_tests, e), omega arith)
    at false e = (inl refl, omega arith, grind (arith, nat_tests, e))

-- ---- the leaders of both halves: no others than theirs, and none of theirs is further on
pub record Leads (g t : List ℕ) (r : Option Leaders) (a : Leaders) : Type 0 where
  pub leaders : Leaders
  pub is : r ≡ Some leaders
  pub last : place_in g a.last_in_g ≤ place_in g leaders.last_in_g
  pub first : place_in t leaders.first_in_t ≤ place_in t a.first_in_t

pub leads_left : (g t : List ℕ) (a : Leaders) (b : Option Leaders) → Leads g t (joined g t (Some a) b) a
leads_left g t a None = record { leaders = a; is = refl; last = omega arith; first = omega arith }
leads_left g t a (Some b) = record { leaders = _; is = refl; last = (later_is g a.last_in_g b.last_in_g).1; first = (earlier_is t a.first_in_t b.first_in_t).1 }

pub leads_right : (g t : List ℕ) (a : Option Leaders) (b : Leaders) → Leads g t (joined g t a (Some b)) b
leads_right g t None b = record { leaders = b; is = refl; last = omega arith; first = omega arith }
leads_right g t (Some a) b = record { leaders = _; is = refl; last = (later_is g a.last_in_g b.last_in_g).2; first = (earlier_is t a.first_in_t b.first_in_t).2 }

abbrev Both : (ℕ → Type 0) → Option Leaders → Type 0
Both P None = Unit {0}
Both P (Some l) = P l.last_in_g × P l.first_in_t

both_of : (P Q R : ℕ → Type 0) (g t : List ℕ) (a b : Option Leaders) → ((x : ℕ) → P x → R x) → ((x : ℕ) → Q x → R x) → Both P a → Both Q b → Both R (joined g t a b)
both_of P Q R g t None None f k p q = tt
both_of P Q R g t None (Some b) f k p q = (k b.last_in_g q.0, k b.first_in_t q.1)
both_of P Q R g t (Some a) None f k p q = (f a.last_in_g p.0, f a.first_in_t p.1)
both_of P Q R g t (Some a) (Some b) f k p q = (
  one (later g a.last_in_g b.last_in_g) a.last_in_g b.last_in_g (later_is g a.last_in_g b.last_in_g).0 p.0 q.0,
  one
      (earlier t a.first_in_t b.first_in_t) a.first_in_t b.first_in_t (earlier_is t a.first_in_t b.first_in_t).0 p.1 q.1,
)
  where
    one : (r x y : ℕ) → (r ≡ x) ⊎ (r ≡ y) → P x → Q y → R r
    one r x y (inl e) p q = subst R (sym e) (f x p)
    one r x y (inr e) p q = subst R (sym e) (k y q)

both_at : (P : ℕ → Type 0) (o : Option Leaders) (l : Leaders) → Both P o → o ≡ Some l → P l.last_in_g × P l.first_in_t
both_at P o l b e = subst (Both P) e b

-- ---- the tree of a list
module _ (f g t : List ℕ) (nodes : List (Option Leaders)) (tree : IsTree f g t nodes) (some : 0 < length g) where
  abbrev room : ℕ
  room = length g

  leaf_at : (v : ℕ) → room ≤ v → v < 2 * room → (p : ℕ) × (room + p ≡ v) × (at_node nodes v ≡ leaf f p)
  leaf_at v l u =
      let e : room + (v - room) ≡ v = omega (arith, l) in (
        v - room,
        e,
        ap (at_node nodes) (sym e) ∙ elim (tree.leaves (v - room) (omega (arith, l, u))) [
          | inl r ↦ r
          | inr n ↦ absurd n
        ],
      )

  join_at : (v : ℕ) → 0 < v → v < room → at_node nodes v ≡ joined_at g t nodes v
  join_at v s l = elim (tree.joins.joins v s l) [
    | inl r ↦ r
    | inr n ↦ absurd n
  ]

  lifted : (h v w x : ℕ) → w / 2 ≡ v → IsUnder f room h w x → IsUnder f room (suc h) v x
  lifted h v w x e u = record { place = u.place; at = u.at; above = ap (λ (n : ℕ). n / 2) u.above ∙ e }

  -- the leaders of a node are under it
  both_under : (h v : ℕ) → IsAt room h v → Both (IsUnder f room h v) (at_node nodes v)
  both_under zero v a = let w = leaf_at v a.0 a.1 in subst (Both (IsUnder f room zero v)) (sym w.2) (at (slice_get f w.0) w.0 refl w.1)
    where
      at : (o : Option ℕ) (p : ℕ) → slice_get f p ≡ o → room + p ≡ v → Both (IsUnder f room zero v) (option_map sole o)
      at None p e r = tt
      at (Some x) p e r = (record { place = p; at = e; above = r }, record { place = p; at = e; above = r })
  both_under (suc h) v a =
      let i = at_inner room h v some a in
      subst (Both (IsUnder f room (suc h) v)) (sym (join_at v i.0 i.1))
      (both_of (IsUnder f room h (2 * v)) (IsUnder f room h (2 * v + 1)) (IsUnder f room (suc h) v) g t (at_node nodes (2 * v)) (at_node nodes (2 * v + 1))
      (λ x u. lifted h v (2 * v) x (omega arith) u) (λ x u. lifted h v (2 * v + 1) x (omega arith) u) (both_under h (2 * v) a.0) (both_under h (2 * v + 1) a.1))

  pub under : (h v : ℕ) (l : Leaders) → IsAt room h v → at_node nodes v ≡ Some l → IsUnder f room h v l.last_in_g × IsUnder f room h v l.first_in_t
  under h v l a e = both_at (IsUnder f room h v) (at_node nodes v) l (both_under h v a) e

  -- and no number under it is further on
  pub led : (h v x : ℕ) → IsAt room h v → IsUnder f room h v x → Leads g t (at_node nodes v) (sole x)
  led zero v x a u =
      let w = leaf_at v a.0 a.1 in
      let same : w.0 ≡ u.place = let e = w.1 in let k = u.above in omega (arith, e, k) in
      record { leaders = sole x; is = w.2 ∙ ap (leaf f) same ∙ ap (λ (o : Option ℕ). option_map sole o) u.at; last = omega arith; first = omega arith }
  led (suc h) v x a u = elim (side (up h (room + u.place)) u.above) [
    | inl e ↦ from_left (led h (2 * v) x a.0 (record { place = u.place; at = u.at; above = e }))
    | inr e ↦ from_right (led h (2 * v + 1) x a.1 (record { place = u.place; at = u.at; above = e }))
  ]
    where
      inner : (0 < v) × (v < room)
      inner = at_inner room h v some a

      side : (w : ℕ) → w / 2 ≡ v → (w ≡ 2 * v) ⊎ (w ≡ 2 * v + 1)
      side w e = elim (cases_eq w (2 * v)) [
        | inl s ↦ inl s
        | inr n ↦ inr (omega (arith, e, n))
      ]

      further : (a : Leaders) → Leads g t (at_node nodes v) a → place_in g x ≤ place_in g a.last_in_g → place_in t a.first_in_t ≤ place_in t x → Leads g t (at_node nodes v) (sole x)
      further a l m n = record { leaders = l.leaders; is = l.is; last = let k = l.last in omega (arith, k, m); first = let k = l.first in omega (arith, k, n) }

      from_left : Leads g t (at_node nodes (2 * v)) (sole x) → Leads g t (at_node nodes v) (sole x)
      from_left l = further l.leaders (subst (λ (o : Option Leaders). Leads g t o l.leaders)
          (sym (join_at v inner.0 inner.1 ∙ ap (λ (o : Option Leaders). joined g t o (at_node nodes (2 * v + 1))) l.is)) (leads_left g t l.leaders (at_node nodes (2 * v + 1)))) l.last l.first

      from_right : Leads g t (at_node nodes (2 * v + 1)) (sole x) → Leads g t (at_node nodes v) (sole x)
      from_right l = further l.leaders (subst (λ (o : Option Leaders). Leads g t o l.leaders) (sym (join_at v inner.0 inner.1 ∙ ap (joined g t (at_node nodes (2 * v))) l.is))
          (leads_right g t (at_node nodes (2 * v)) l.leaders)) l.last l.first
