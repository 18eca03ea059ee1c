-- What a write into one node spoils, and the ways up.
use Rattle.std.proofs.Common.{◌≡◌, ◌≢◌, refl, sym, ap, ◌∙◌, subst, arith, List, ℕ, zero, suc, ◌+◌, ◌*◌, ◌/◌, ◌<◌, ◌≤◌, Bool, true, false, cond, nat_lt, length, get_or, set, Option, Some, None, length-set, inl, inr}
use Rattle.std.specs.Prelude.{slice_get, option_map}
use Rattle.std.proofs.lemmas.Bool.{cases_eq}
use Rattle.std.proofs.lemmas.List.{get_or-set_same, get_or-set_other}
use Rattle.kin_rank.specs.declared.leaders.Leaders.{Leaders}
use Rattle.kin_rank.specs.Leading.{sole, later, earlier, joined, IsKnown}
use Rattle.kin_rank.specs.Trees.{up, at_node, joined_at, leaf, AreLeavesBut, AreSameLeaves, IsJoinedBut}

-- levels
pub up_rises : (h a b : ℕ) → a ≤ b → up h a ≤ up h b
up_rises zero a b l = l
up_rises (suc h) a b l = let r = up_rises h a b l in omega (arith, r)

pub up_half : (h a : ℕ) → up h (a / 2) ≡ up (suc h) a
up_half zero a = refl
up_half (suc h) a = ap (λ (n : ℕ). n / 2) (up_half h a)

pub up_none : (h : ℕ) → up h 0 ≡ 0
up_none zero = refl
up_none (suc h) = ap (λ (n : ℕ). n / 2) (up_none h)

pub up_together : (h k a b : ℕ) → up h a ≡ up h b → h ≤ k → up k a ≡ up k b
up_together h zero a b e l = subst (λ (n : ℕ). up n a ≡ up n b) (let z : h ≡ zero = omega arith in z) e
up_together h (suc k) a b e l = elim (cases_eq h (suc k)) [
  | inl s ↦ subst (λ (n : ℕ). up n a ≡ up n b) s e
  | inr n ↦ ap (λ (m : ℕ). m / 2) (up_together h k a b e (omega (arith, n)))
]

-- leaders of numbers below a bound are numbers below it
known_later : (g : List ℕ) (n a b : ℕ) → a < n → b < n → later g a b < n
known_later g n a b l m = at (nat_lt (get_or g a 0) (get_or g b 0))
  where
    at : (c : Bool) → cond c b a < n
    at true = m
    at false = l

known_earlier : (g : List ℕ) (n a b : ℕ) → a < n → b < n → earlier g a b < n
known_earlier g n a b l m = at (nat_lt (get_or g b 0) (get_or g a 0))
  where
    at : (c : Bool) → cond c b a < n
    at true = m
    at false = l

pub known_joined : (g t : List ℕ) (n : ℕ) (a b : Option Leaders) → IsKnown n a → IsKnown n b → IsKnown n (joined g t a b)
known_joined g t n None b l m = m
known_joined g t n (Some a) None l m = l
known_joined g t n (Some a) (Some b) l m = (known_later g n a.last_in_g b.last_in_g l.0 m.0, known_earlier t n a.first_in_t b.first_in_t l.1 m.1)

-- fewer are spoilt
pub less_spoilt : (g t : List ℕ) (nodes : List (Option Leaders)) (bad worse : ℕ → Type 0) → IsJoinedBut g t nodes bad → ((v : ℕ) → 0 < v → bad v → worse v) → IsJoinedBut g t nodes worse
less_spoilt g t nodes bad worse j f = record {
  count = j.count;
  known = j.known;
  joins = λ v some inner. elim (j.joins v some inner) [
    | inl e ↦ inl e
    | inr b ↦ inr (f v some b)
  ];
}

module _ (g t : List ℕ) (nodes : List (Option Leaders)) (bad : ℕ → Type 0) (j : IsJoinedBut g t nodes bad) where
  -- a write spoils the node above
  module _ (worse : ℕ → Type 0) (v : ℕ) (x : Option Leaders) (within : v < 2 * length g) (known : IsKnown (length g) x) (above : worse (v / 2)) (others : (u : ℕ) → 0 < u → u ≢ v → bad u → worse u)
    where
      abbrev after : List (Option Leaders)
      after = set nodes v x

      here : at_node after v ≡ x
      here = get_or-set_same nodes v x None (let c = j.count in omega arith)

      other : (u : ℕ) → u ≢ v → at_node after u ≡ at_node nodes u
      other u n = get_or-set_other nodes v u x None n

      same_halves : (u : ℕ) → 2 * u ≢ v → 2 * u + 1 ≢ v → joined_at g t after u ≡ joined_at g t nodes u
      same_halves u n m = λ k. joined g t (other (2 * u) n k) (other (2 * u + 1) m k)

      pub put : (0 < v → v < length g → x ≡ joined_at g t nodes v) → IsJoinedBut g t after worse
      put right = record {
        count = length-set nodes v x ∙ j.count;
        known = λ u. elim (cases_eq u v) [
          | inl e ↦ subst (IsKnown (length g)) (sym (ap (at_node after) e ∙ here)) known
          | inr n ↦ subst (IsKnown (length g)) (sym (other u n)) (j.known u)
        ];
        joins = λ u some inner. elim (cases_eq u v) [
          | inl e ↦ inl (subst (λ (w : ℕ). at_node after w ≡ joined_at g t after w) (sym e)
              (here ∙ right (subst (λ (w : ℕ). 0 < w) e some) (subst (λ (w : ℕ). w < length g) e inner) ∙ sym
              (same_halves v (λ i. absurd (omega (arith, i, some, e))) (λ i. absurd (omega (arith, i, some, e))))))
          | inr n ↦ elim (cases_eq u (v / 2)) [
            | inl e ↦ inr (subst worse (sym e) above)
            | inr m ↦ elim (j.joins u some inner) [
              | inl r ↦ inl (other u n ∙ r ∙ sym (same_halves u (λ i. absurd (m (omega (arith, i)))) (λ i. absurd (m (omega (arith, i))))))
              | inr b ↦ inr (others u some n b)
            ]
          ]
        ];
      }

  -- a node that was joined anew
  pub renewed : (worse : ℕ → Type 0) (v : ℕ) → v < length g → worse (v / 2) → ((u : ℕ) → 0 < u → u ≢ v → bad u → worse u) → IsJoinedBut g t (set nodes v (joined_at g t nodes v)) worse
  renewed worse v inner above others = put worse v (joined_at g t nodes v) (omega arith) (known_joined g t (length g) (at_node nodes (2 * v)) (at_node nodes (2 * v + 1)) (j.known (2 * v))
      (j.known (2 * v + 1))) above others (λ some l. refl)

  -- a node that stayed as it was when it was joined anew
  pub same_joined : (after : List (Option Leaders)) (worse : ℕ → Type 0) (v : ℕ) → v < length g → after ≡ set nodes v (joined_at g t nodes v) → after ≡ nodes
      → ((u : ℕ) → 0 < u → u ≢ v → bad u → worse u) → IsJoinedBut g t after worse
  same_joined after worse v inner made same others = subst (λ (ns : List (Option Leaders)). IsJoinedBut g t ns worse) (sym same) (record {
    count = j.count;
    known = j.known;
    joins = λ u some low. elim (cases_eq u v) [
      | inl e ↦ inl (subst (λ (w : ℕ). at_node nodes w ≡ joined_at g t nodes w) (sym e)
          (ap (λ (ns : List (Option Leaders)). at_node ns v) (sym same ∙ made) ∙ get_or-set_same nodes v (joined_at g t nodes v) None (let c = j.count in omega arith)))
      | inr n ↦ elim (j.joins u some low) [
        | inl r ↦ inl r
        | inr b ↦ inr (others u some n b)
      ]
    ];
  })

-- a write below the leaves
pub leaves-set : (room : ℕ) (old nodes : List (Option Leaders)) (v : ℕ) (x : Option Leaders) → v < room → AreSameLeaves room old nodes → AreSameLeaves room old (set nodes v x)
leaves-set room old nodes v x low same u l = get_or-set_other nodes v u x None (λ e. absurd (omega (arith, e, low, l))) ∙ same u l

pub leaves_then : (room : ℕ) (a b c : List (Option Leaders)) → AreSameLeaves room a b → AreSameLeaves room b c → AreSameLeaves room a c
leaves_then room a b c p q u l = q u l ∙ p u l

pub leaves_stay : (f : List ℕ) (room : ℕ) (old new : List (Option Leaders)) (spare : ℕ → Type 0) → AreSameLeaves room old new → AreLeavesBut f room old spare → AreLeavesBut f room new spare
leaves_stay f room old new spare same leaves p l = elim (leaves p l) [
  | inl e ↦ inl (same (room + p) (omega arith) ∙ e)
  | inr o ↦ inr o
]

-- a leaf is known
pub known_leaf : (f : List ℕ) (room p : ℕ) → ((q x : ℕ) → slice_get f q ≡ Some x → x < room) → IsKnown room (leaf f p)
known_leaf f room p within = at (slice_get f p) refl
  where
    at : (o : Option ℕ) → slice_get f p ≡ o → IsKnown room (leaf f p)
    at None e = subst (IsKnown room) (sym (ap (λ (o : Option ℕ). option_map sole o) e)) tt
    at (Some x) e = subst (IsKnown room) (sym (ap (λ (o : Option ℕ). option_map sole o) e)) (within p x e, within p x e)
