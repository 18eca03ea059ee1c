-- What keys and their holders say, and what a change of a holder keeps.
use Rattle.std.proofs.Common.{◌≡◌, ℕ, ◌+◌, ◌-◌, ◌*◌, ◌/◌, ◌%◌, ◌^◌, nat_lt, arith, not, if◌then◌else◌, Bool, true, false, cond, List, [], ◌∷◌, Option, Some, None, slice_get, nat_eq, eqb-true, refl, sym, ap, ap₂, subst, ◌∙◌, inl, inr}
use Rattle.std.proofs.lemmas.Option.{same_Some}
use Rattle.std.proofs.lemmas.Cmp.{nat_eq_equiv, lists_equiv}
use Rattle.std.proofs.lemmas.Bool.Decides.{nat_tests}
use Rattle.std.specs.Map.{lookup_key}
use Rattle.kin_motion.specs.declared.form.Form.{Form}
use Rattle.kin_cert.specs.declared.holder.Holder.{Holder}
use Rattle.kin_cert.specs.declared.key.Key.{Key}
use Rattle.kin_cert.specs.declared.key.Key.TheVariants.{Seat, Bucket}
use Rattle.kin_cert.specs.declared.bucket.Label.{Label}
use Rattle.kin_cert.specs.declared.plan.Plan.{Plan}
use Rattle.kin_cert.specs.declared.plan.Section.{Section}
use Rattle.kin_fail.specs.declared.owned.Owned.{Owned}
use Rattle.kin_fail.specs.Rank.{padded_rank, owned_rank}
use Rattle.kin_cert.specs.Bucket.{is_bucket}
use Rattle.kin_cert.specs.Keys.{list_seat, merge_seat, joint_seat, seat_in, seat_at, seat_or, key_at, key_of, owned_key, is_key}
use Rattle.kin_cert.specs.Holders.{HasHolder, AreSame, HasLeft, MayHaveLeft}
use Rattle.kin_cert.specs.Rolls.{IsKnownBy, IsShared}
use Rattle.kin_fail.proofs.Ranks.{both_hold, rank_names}

pub some_none : {A : Type 0} (x : A) → Some x ≡ None → ⊥
some_none x e = cc

pub not_true : (b : Bool) → not b ≡ true → b ≡ false
not_true true e = absurd (cc)
not_true false e = refl

-- ---- buckets

pub bucket_same : (xs ys : List ℕ) → is_bucket xs ys ≡ true → xs ≡ ys
bucket_same [] [] e = refl
bucket_same [] (y ∷ ys) e = absurd (cc)
bucket_same (x ∷ xs) [] e = absurd (cc)
bucket_same (x ∷ xs) (y ∷ ys) e =
    let b = both_hold (nat_eq x y) (is_bucket xs ys) e in
    ap₂ (λ (z : ℕ) (zs : List ℕ). z ∷ zs) (eqb-true x y b.0) (bucket_same xs ys b.1)

-- the key that a look-up finds is the bucket itself
pub found-key : {V : Type 0} (bucket : List ℕ) (es : List (List ℕ × V)) (key : List ℕ) → lookup_key (is_bucket bucket) es ≡ Some key → bucket ≡ key
found-key bucket [] key h = absurd cc
found-key bucket (e ∷ es) key h =
    elim (is_bucket bucket e.0) as (λ b. is_bucket bucket e.0 ≡ b → cond b (Some e.0) (lookup_key (is_bucket bucket) es) ≡ Some key → bucket ≡ key) [
      | true ↦ λ t found. bucket_same bucket e.0 t ∙ same_Some e.0 key found
      | false ↦ λ t found. found-key bucket es key found
    ] refl h

-- ---- keys

pub key_same : (x y : Key) → is_key x y ≡ true → x ≡ y
key_same (Seat p) (Seat q) e = ap Seat (eqb-true p q e)
key_same (Seat p) (Bucket c) e = absurd (cc)
key_same (Bucket b) (Seat q) e = absurd (cc)
key_same (Bucket b) (Bucket c) e = ap Bucket (bucket_same b c e)

pub key_itself : (x : Key) → is_key x x ≡ true
key_itself (Seat p) = nat_eq_equiv.refl p
key_itself (Bucket b) = (lists_equiv nat_eq_equiv).refl b

pub key_differs : (x y : Key) → (x ≡ y → ⊥) → is_key x y ≡ false
key_differs x y n = elim (is_key x y) as (λ b. is_key x y ≡ b → b ≡ false) [ true ↦ λ e. absurd (n (key_same x y e)) | false ↦ λ e. refl ] refl

-- forms of one rank have one key
pub rank-key : (plan : Plan) (o p : Owned) → owned_rank o ≡ owned_rank p → owned_key plan o ≡ owned_key plan p
rank-key plan o p e =
    let n = rank_names o.structure o.part o.fact.form p.structure p.part p.fact.form e in
    ap (λ (x : ℕ). key_of plan x o.part o.fact.form) n.structure
    ∙ ap (λ (x : ℕ). key_of plan p.structure x o.fact.form) n.part
    ∙ ap (λ (x : Form). key_of plan p.structure p.part x) n.form

-- the key of an owner's form is that of a fact of its rank
pub rank-key_of : (plan : Plan) (o : Owned) (s p : ℕ) (f : Form) → owned_rank o ≡ padded_rank s p f → owned_key plan o ≡ key_of plan s p f
rank-key_of plan o s p f e = rank-key plan o (record { structure = s; part = p; fact = record { form = f; sign = o.fact.sign } }) e

-- ---- seats

-- a node has one seat, whatever the number
pub node_seat : (numbers : ℕ) (s : Section) (part : ℕ) → nat_lt part s.lists ≡ false → nat_lt (part - s.lists) s.nodes ≡ true → (n : ℕ) → seat_in numbers s part n ≡ Some (s.base + s.lists * numbers + (part - s.lists))
node_seat numbers s part past node n =
    ap (λ (b : Bool). if b then list_seat numbers s part n else (if nat_lt (part - s.lists) s.nodes then Some (s.base + s.lists * numbers + (part - s.lists)) else joint_seat numbers s part n)) past
    ∙ ap (λ (b : Bool). if b then Some (s.base + s.lists * numbers + (part - s.lists)) else joint_seat numbers s part n) node

-- where there are neither lists nor nodes, two parts have one seat
pub pair_seat : (numbers : ℕ) (s : Section) → s.lists ≡ 0 → s.nodes ≡ 0 → (n : ℕ) → nat_lt (n % 2 ^ 30) numbers ≡ true → (part : ℕ) → nat_lt (part / 2) s.pairs ≡ true → seat_in numbers s part n ≡ Some (s.base + part / 2 * numbers + n % 2 ^ 30)
pair_seat numbers s no_lists no_nodes n low part pair =
    let past : nat_lt part s.lists ≡ false = grind (arith, nat_tests, no_lists) in
    let inner : nat_lt (part - s.lists) s.nodes ≡ false = grind (arith, nat_tests, no_nodes) in
    ap (λ (b : Bool). if b then list_seat numbers s part n else (if nat_lt (part - s.lists) s.nodes then Some (s.base + s.lists * numbers + (part - s.lists)) else joint_seat numbers s part n)) past
    ∙ ap (λ (b : Bool). if b then Some (s.base + s.lists * numbers + (part - s.lists)) else joint_seat numbers s part n) inner
    ∙ ap (λ (b : Bool). if b then list_seat numbers s (part / 2) n else merge_seat numbers s part n) pair
    ∙ ap (λ (b : Bool). if b then Some (s.base + part / 2 * numbers + n % 2 ^ 30) else None) low

-- the key of a label that has a seat
pub seated-key : (plan : Plan) (structure : ℕ) (l : Label) (s : Section) → slice_get plan.sections.items structure ≡ Some s → (seat : ℕ) → seat_in plan.numbers s l.part l.number ≡ Some seat → key_at plan structure l ≡ Seat seat
seated-key plan structure l s there seat is =
    ap (λ (o : Option Section). seat_or (seat_at plan.numbers o l.part l.number) (structure ∷ l.part ∷ l.number ∷ [])) there
    ∙ ap (λ (o : Option ℕ). seat_or o (structure ∷ l.part ∷ l.number ∷ [])) is

-- ---- holders

-- what was done to holders that are the same, at a key that is the same
pub has-after : (holders same after : Key → Option Holder) (key k : Key) (holder : Holder) → AreSame holders same → k ≡ key → HasHolder same k holder after → HasHolder holders key holder after
has-after holders same after key k holder are k_is has q = has q ∙ ap (cond (is_key k q) (Some holder)) (are q) ∙ ap (λ (p : Key). cond (is_key p q) (Some holder) (holders q)) k_is

pub left-after : (holders same after : Key → Option Holder) (key k : Key) → AreSame holders same → k ≡ key → MayHaveLeft same k after → MayHaveLeft holders key after
left-after holders same after key k are k_is (inl h) =
    inl (subst (λ (p : Key). HasLeft holders p after) k_is
    (record { was = record { holder = h.was.holder; known = sym (are k) ∙ h.was.known; unshared = h.was.unshared }; gone = λ q. h.gone q ∙ ap (cond (is_key k q) None) (are q) }))
left-after holders same after key k are k_is (inr same_after) = inr (λ q. same_after q ∙ are q)

module _ (holders : Key → Option Holder) where
  -- one id knows a key
  pub known-once : (p q : Key) (i j : ℕ) → p ≡ q → IsKnownBy holders p i → IsKnownBy holders q j → i ≡ j
  known-once p q i j e x y =
      let same : x.holder ≡ y.holder = same_Some x.holder y.holder (sym x.known ∙ ap holders e ∙ y.known) in
      sym x.id_is ∙ ap (λ (h : Holder). h.id) same ∙ y.id_is

  module _ (holders' : Key → Option Holder) where
    -- what a key that is as it was is known by
    pub kept-known : (q : Key) (id : ℕ) → holders' q ≡ holders q → IsKnownBy holders q id → IsKnownBy holders' q id
    kept-known q id e x = record { holder = x.holder; known = e ∙ x.known; id_is = x.id_is }

    pub kept-shared : (q : Key) → holders' q ≡ holders q → IsShared holders q → IsShared holders' q
    kept-shared q e x = record { holder = x.holder; known = e ∙ x.known; shared = x.shared }

    module _ (key : Key) (holder : Holder) (has : HasHolder holders key holder holders') where
      -- the key itself, and another one
      pub here : (q : Key) → is_key key q ≡ true → holders' q ≡ Some holder
      here q t = has q ∙ ap (λ (b : Bool). cond b (Some holder) (holders q)) t

      pub elsewhere : (q : Key) → is_key key q ≡ false → holders' q ≡ holders q
      elsewhere q t = has q ∙ ap (λ (b : Bool). cond b (Some holder) (holders q)) t

      -- a key that is shared stays so
      pub stays-shared : ((h : Holder) → holders key ≡ Some h → h.is_shared ≡ true → holder.is_shared ≡ true) → (q : Key) → IsShared holders q → IsShared holders' q
      stays-shared stays q x =
          elim (is_key key q) as (λ b. is_key key q ≡ b → IsShared holders' q) [
            | true ↦ λ t. record { holder = holder; known = here q t; shared = stays x.holder (ap holders (key_same key q t) ∙ x.known) x.shared }
            | false ↦ λ t. kept-shared q (elsewhere q t) x
          ] refl

    -- a key that isn't shared may be gone
    module _ (key : Key) where
      pub left-was-known : MayHaveLeft holders key holders' → (q : Key) (id : ℕ) → IsKnownBy holders' q id → IsKnownBy holders q id
      left-was-known (inr same) q id x = record { holder = x.holder; known = sym (same q) ∙ x.known; id_is = x.id_is }
      left-was-known (inl h) q id x =
          elim (is_key key q) as (λ b. holders' q ≡ cond b None (holders q) → IsKnownBy holders q id) [
            | true ↦ λ gone. absurd (some_none x.holder (sym x.known ∙ gone))
            | false ↦ λ kept. record { holder = x.holder; known = sym kept ∙ x.known; id_is = x.id_is }
          ] (h.gone q)

      pub left-known : MayHaveLeft holders key holders' → (q : Key) (id : ℕ) → (key ≡ q → ⊥) → IsKnownBy holders q id → IsKnownBy holders' q id
      left-known (inr same) q id n x = kept-known q id (same q) x
      left-known (inl h) q id n x = kept-known q id (h.gone q ∙ ap (λ (b : Bool). cond b None (holders q)) (key_differs key q n)) x

      pub left-shared : MayHaveLeft holders key holders' → (q : Key) → IsShared holders q → IsShared holders' q
      left-shared (inr same) q x = kept-shared q (same q) x
      left-shared (inl h) q x =
          let n : key ≡ q → ⊥ = λ e.
          let is : x.holder ≡ h.was.holder = same_Some x.holder h.was.holder (sym x.known ∙ ap holders (sym e) ∙ h.was.known) in
          let both : true ≡ false = sym x.shared ∙ ap (λ (k : Holder). k.is_shared) is ∙ h.was.unshared in
          absurd cc in
          kept-shared q (h.gone q ∙ ap (λ (b : Bool). cond b None (holders q)) (key_differs key q n)) x
