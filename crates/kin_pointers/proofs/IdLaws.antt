-- A list of ids in which so many first ones have their places, also after one is put in or taken out.
use Rattle.std.proofs.Common.{◌≡◌, ◌≢◌, ◌↔◌, refl, sym, ap, ◌∙◌, subst, arith, List, [], ◌∷◌, ◌++◌, ℕ, ◌+◌, ◌^◌, ◌<◌, ◌≤◌, length, set, get_or, Some, None, inl, inr}
use Rattle.std.specs.Prelude.{slice_get, slice_index_or, Contains}
use Rattle.std.proofs.lemmas.Bool.{cases_eq}
use Rattle.std.proofs.lemmas.Option.{slice_get_within, slice_get-get_or, same_Some, none-some}
use Rattle.std.proofs.lemmas.List.{length-append, length-set}
use Rattle.kin_algebra.proofs.Places.{get-set_same, get-set_other, get-push_cases, get_front}
use Rattle.kin_algebra.proofs.Members.{contains_none, contains_from_get, get_from_contains}
use Rattle.kin_motion.specs.Sets.{AreDistinct}
use Rattle.kin_pointers.specs.Pointing.{IsStruck}
use Rattle.kin_pointers.proofs.Held.{get_at}
use Rattle.kin_pointers.specs.Ids.{ArePlaced, HaveRoom, IsIndexed, IsWithout}

-- ---- where all ids have their places
module _ (ids places : List ℕ) (placed : ArePlaced (length ids) ids places) where
  h : (place id : ℕ) → slice_get ids place ≡ Some id → slice_get places id ≡ Some place
  h place id e = placed place id (slice_get_within ids place id e) e

  -- the place of an id that is there
  pub place-is : (id place : ℕ) → slice_get places id ≡ Some place → Contains ids id → slice_get ids place ≡ Some id
  place-is id place e c =
      let p = get_from_contains ids id c in
      ap (slice_get ids) (same_Some _ _ (sym e ∙ h p.0 id p.1)) ∙ p.1

  pub no_place : (id : ℕ) → slice_get places id ≡ None → ¬ (Contains ids id)
  no_place id e c = let p = get_from_contains ids id c in none-some p.0 (sym e ∙ h p.0 id p.1)

  pub none_there : (id place : ℕ) → slice_get places id ≡ Some place → slice_get ids place ≡ None → ¬ (Contains ids id)
  none_there id place e f c = none-some id (sym f ∙ place-is id place e c)

  pub has_room : (id : ℕ) → Contains ids id → id < length places
  has_room id c = let p = get_from_contains ids id c in slice_get_within places id p.0 (h p.0 id p.1)

  pub place_there : (id place : ℕ) → Contains ids id → slice_get places id ≡ Some place → place < length ids
  place_there id place c e = slice_get_within ids place id (place-is id place e c)

  -- an id goes, and the last one takes its place
  module _ (id place last : ℕ) (new : List ℕ) (there : slice_get ids place ≡ Some id) (struck : IsStruck ids new place last) where
    place_of : slice_get places id ≡ Some place
    place_of = h place id there

    pub last_room : last < length places
    last_room = slice_get_within places last _ (h (length new) last struck.last_is)

    -- where the place isn't the last one, the last id is another
    another : place < length new → last ≢ id
    another low e = let same : length new ≡ place = same_Some _ _ (sym (h (length new) last struck.last_is) ∙ ap (slice_get places) e ∙ place_of) in omega (arith, low, same)

    -- where each id of the new list was
    was : (p q : ℕ) → slice_get new p ≡ Some q → (q ≢ id) × Contains ids q
    was p q e = elim (cases_eq p place) [
      | inl is ↦
          let low : place < length new = omega (arith, is, slice_get_within new p q e) in
          let q_is : last ≡ q = same_Some _ _ (sym (struck.there low) ∙ ap (slice_get new) (sym is) ∙ e) in
          subst (λ (x : ℕ). (x ≢ id) × Contains ids x) q_is (another low, contains_from_get ids (length new) last struck.last_is)
      | inr n ↦
          let f = sym (struck.others p (slice_get_within new p q e) n) ∙ e in
          ((λ is. n (same_Some _ _ (sym (h p q f) ∙ ap (slice_get places) is ∙ place_of))), contains_from_get ids p q f)
    ]

    is : (p q : ℕ) → slice_get ids p ≡ Some q → q ≢ id → Contains new q
    is p q e other =
        let apart : p ≢ place = λ k. other (same_Some _ _ (sym e ∙ ap (slice_get ids) k ∙ there)) in
        elim (cases_eq p (length new)) [
          | inl k ↦
              let q_is : last ≡ q = same_Some _ _ (sym struck.last_is ∙ ap (slice_get ids) (sym k) ∙ e) in
              let low : place < length new = omega (arith, slice_get_within ids place id there, struck.count, k, apart) in
              contains_from_get new place q (struck.there low ∙ ap (λ (x : ℕ). Some x) q_is)
          | inr k ↦
              let low : p < length new = omega (arith, slice_get_within ids p q e, struck.count, k) in
              contains_from_get new p q (struck.others p low apart ∙ e)
        ]

    placed_still : (p q : ℕ) → slice_get new p ≡ Some q → slice_get (set places last place) q ≡ Some p
    placed_still p q e = elim (cases_eq p place) [
      | inl k ↦
          let low : place < length new = omega (arith, k, slice_get_within new p q e) in
          let q_is : last ≡ q = same_Some _ _ (sym (struck.there low) ∙ ap (slice_get new) (sym k) ∙ e) in
          ap (slice_get (set places last place)) (sym q_is) ∙ get-set_same places last place last_room ∙ ap (λ (x : ℕ). Some x) (sym k)
      | inr n ↦
          let low = slice_get_within new p q e in
          let f = sym (struck.others p low n) ∙ e in
          let other : q ≢ last = λ k. let same : p ≡ length new = same_Some _ _ (sym (h p q f) ∙ ap (slice_get places) k ∙ h (length new) last struck.last_is) in omega (arith, low, same) in
          get-set_other places last q place other ∙ h p q f
    ]

    once_still : AreDistinct new
    once_still i j x e f = same_Some _ _ (sym (placed_still i x e) ∙ placed_still j x f)

    pub left : (q : ℕ) → Contains new q ↔ ((q ≢ id) × Contains ids q)
    left q = (
      (λ c. let p = get_from_contains new q c in was p.0 q p.1),
      (λ c. let p = get_from_contains ids q c.1 in is p.0 q p.1 c.0),
    )

    -- what is left
    pub without : IsWithout ids new id
    without = record { left = left; once = once_still }

    -- it is indexed as a whole
    pub struck_indexed : length ids ≤ 2 ^ 32 → HaveRoom ids places → length (set places last place) ≡ length places → IsIndexed new (set places last place) (length new)
    struck_indexed few room same = record {
      once = once_still;
      room = λ q c. let low = room q ((left q).0 c).1 in omega (arith, same, low);
      placed = λ p q low e. placed_still p q e;
      within = omega arith;
      few = let count = struck.count in omega (arith, few, count);
    }

-- ---- where so many ids have their places
-- the places of none are known
pub none_indexed : IsIndexed [] [] 0
none_indexed = record {
  once = λ i j x e f. absurd cc;
  room = λ id c. absurd (contains_none id c);
  placed = λ p q low e. absurd (omega (arith, low));
  within = omega arith;
  few = omega arith;
}

-- the next place is written
pub placed_on : (ids places : List ℕ) (known id : ℕ) → AreDistinct ids → HaveRoom ids places → ArePlaced known ids places → slice_get ids known ≡ Some id → ArePlaced (known + 1) ids (set places id known)
placed_on ids places known id once room placed there p q low e = elim (cases_eq p known) [
  | inl is ↦
      let same : q ≡ id = same_Some _ _ (sym e ∙ ap (slice_get ids) is ∙ there) in
      ap (slice_get (set places id known)) same ∙ get-set_same places id known (room id (contains_from_get ids known id there)) ∙ ap (λ (x : ℕ). Some x) (sym is)
  | inr other ↦
      get-set_other places id q known (λ same. other (once p known id (e ∙ ap (λ (x : ℕ). Some x) same) there)) ∙ placed p q (omega (arith, low, other)) e
]

-- there is as much room
pub room_still : (ids places more : List ℕ) → length places ≤ length more → HaveRoom ids places → HaveRoom ids more
room_still ids places more longer room id c = let low = room id c in omega (arith, longer, low)

module _ (ids places : List ℕ) (known : ℕ) (s : IsIndexed ids places known) where
  -- more places
  pub covered : (more : List ℕ) → length places ≤ length more → ((j : ℕ) → j < length places → slice_get more j ≡ slice_get places j) → IsIndexed ids more known
  covered more longer same = record {
    once = s.once;
    room = room_still ids places more longer s.room;
    placed = λ p q low e. same q (s.room q (contains_from_get ids p q e)) ∙ s.placed p q low e;
    within = s.within;
    few = s.few;
  }

  -- an id comes
  pub put : (id : ℕ) → ¬ (Contains ids id) → id < length places → length (ids ++ id ∷ []) ≤ 2 ^ 32 → IsIndexed (ids ++ id ∷ []) places known
  put id absent room few = record {
    once = λ i j x e f. elim (get-push_cases ids id i x e) [
      | inl g ↦ elim (get-push_cases ids id j x f) [
        | inl k ↦ s.once i j x g k
        | inr k ↦ absurd (absent (contains_from_get ids i id (g ∙ ap (λ (y : ℕ). Some y) k.1)))
      ]
      | inr g ↦ elim (get-push_cases ids id j x f) [
        | inl k ↦ absurd (absent (contains_from_get ids j id (k ∙ ap (λ (y : ℕ). Some y) g.1)))
        | inr k ↦ g.0 ∙ sym k.0
      ]
    ];
    room = λ q c. let p = get_from_contains (ids ++ id ∷ []) q c in elim (get-push_cases ids id p.0 q p.1) [
      | inl g ↦ s.room q (contains_from_get ids p.0 q g)
      | inr g ↦ let is = g.1 in omega (arith, is, room)
    ];
    placed = λ p q low e. elim (get-push_cases ids id p q e) [
      | inl g ↦ s.placed p q low g
      | inr g ↦ let is = g.0 in let within = s.within in absurd (omega (arith, low, is, within))
    ];
    within = let within = s.within in let more = length-append ids (id ∷ []) in omega (arith, within, more);
    few = few;
  }

-- the last id goes
pub popped : (ids places : List ℕ) (id known : ℕ) (least : ℕ) → IsIndexed (ids ++ id ∷ []) places known → least ≤ known → least ≤ length ids → IsIndexed ids places least
popped ids places id known least s below within = record {
  once = λ i j x e f. s.once i j x (get_front ids (id ∷ []) i x e) (get_front ids (id ∷ []) j x f);
  room = λ q c. let p = get_from_contains ids q c in s.room q (contains_from_get (ids ++ id ∷ []) p.0 q (get_front ids (id ∷ []) p.0 q p.1));
  placed = λ p q low e. s.placed p q (omega (arith, low, below)) (get_front ids (id ∷ []) p q e);
  within = within;
  few = let few = s.few in let more = length-append ids (id ∷ []) in omega (arith, few, more);
}

-- the place of the id that is read next can be written
pub read_there : (ids : List ℕ) (known : ℕ) → known < length ids → slice_get ids known ≡ Some (slice_index_or ids known 0)
read_there ids known low = slice_get-get_or ids known 0 low

pub learnt : (ids places : List ℕ) (known : ℕ) → AreDistinct ids → HaveRoom ids places → ArePlaced known ids places → known < length ids
    → ArePlaced (known + 1) ids (set places (slice_index_or ids known 0) known) × HaveRoom ids (set places (slice_index_or ids known 0) known)
learnt ids places known once room placed low =
    let id = slice_index_or ids known 0 in
    let same = length-set places id known in
    (placed_on ids places known id once room placed (read_there ids known low), room_still ids places (set places id known) (omega (arith, same)) room)

-- all places have been written
pub all_indexed : (ids places more : List ℕ) (known : ℕ) → IsIndexed ids places known → (seen : List ℕ) → seen ≡ ids → ArePlaced (length seen) seen more → HaveRoom seen more → IsIndexed ids more (length ids)
all_indexed ids places more known s seen same placed room = record {
  once = s.once;
  room = subst (λ (xs : List ℕ). HaveRoom xs more) same room;
  placed = subst (λ (xs : List ℕ). ArePlaced (length xs) xs more) same placed;
  within = omega arith;
  few = s.few;
}

-- the id is at the place that is read for it
pub read_at : (ids places : List ℕ) → IsIndexed ids places (length ids) → (id place : ℕ) → Contains ids id → place ≡ get_or places id place → slice_get ids place ≡ Some id
read_at ids places all id place there read = place-is ids places all.placed id place (get_at places id place place (all.room id there) read refl) there
