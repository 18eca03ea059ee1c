-- Maps of moments with ids beside them.
use Rattle.std.proofs.Common.{◌≡◌, ◌≢◌, ℕ, suc, ◌<◌, Bool, true, false, cond, List, [], ◌∷◌, ◌++◌, length, slice_get, Option, Some, None, IsSome, refl, sym, ap, subst, ◌∙◌, ◌⊎◌, inl, inr, ◌↔◌, arith}
use Rattle.std.specs.List.{Contains}
use Rattle.std.specs.Ordering.{nat_cmp}
use Rattle.std.specs.FinMap as map
use Rattle.std.specs.FinMap.{FinMap, same_map, nat_cmp-IsAntisymmetric, get-insert, get-remove, get-empty}
use Rattle.std.proofs.lemmas.Cmp.{nat_cmp_total}
use Rattle.std.proofs.lemmas.Option.{none-some, slice_get_within}
use Rattle.std.proofs.lemmas.List.Elements.{Contains-push, Contains-push_cases, Contains-append_left}
use Rattle.kin_algebra.proofs.Members.{contains_none, contains_head, contains_tail, contains_cases, get_from_contains}
use Rattle.kin_algebra.proofs.Places.{get_front, get_last}
use Rattle.kin_num.specs.declared.instant.Moment.{Moment}
use Rattle.kin_num.specs.Canonical.{IsCanonical}
use Rattle.kin_num.specs.Order.{IsEarlier}
use Rattle.kin_num.proofs.MomentOrder.{not_earlier_itself, earlier_trans, not_earlier_trans}
use Rattle.kin_motion.specs.Kinetics.{AreDistinct}
use Rattle.kin_motion.proofs.SetLaws.{distinct_none, distinct_cons, distinct_append}
use Rattle.kin_queue.specs.Agenda.{IsLeast}
use Rattle.kin_queue.proofs.Contents.{by_id}
use Rattle.kin_queue.proofs.Entries.{differ}
use Rattle.kin_cert.specs.Schedules.{with_each, AreBeside}

abbrev pub Moments : Type 0
Moments = FinMap nat_cmp Moment

-- the id has this moment
abbrev pub Has : Moments → ℕ → Moment → Type 0
Has m q v = map.get m q ≡ Some v

-- maps that have the same moments are the same
pub same_moments : (m n : Moments) → ((q : ℕ) (v : Moment) → Has m q v ↔ Has n q v) → m ≡ n
same_moments m n h = same_map nat_cmp_total nat_cmp-IsAntisymmetric m n (λ q. at q (map.get m q) (map.get n q) refl refl)
  where
    at : (q : ℕ) (a b : Option Moment) → map.get m q ≡ a → map.get n q ≡ b → map.get m q ≡ map.get n q
    at q (Some v) b e f = e ∙ sym ((h q v).0 e)
    at q None (Some w) e f = absurd (none-some w (sym e ∙ (h q w).1 f))
    at q None None e f = e ∙ sym f

some_is : (v w : Moment) → Some v ≡ Some w → v ≡ w
some_is v w e = cc

-- what an insertion has
pub has_inserted : (m : Moments) (id : ℕ) (at : Moment) → map.get m id ≡ None → (q : ℕ) (v : Moment) → Has (map.insert m id at) q v ↔ (((q ≡ id) × (v ≡ at)) ⊎ Has m q v)
has_inserted m id at absent q v = subst (λ (o : Option Moment). (o ≡ Some v) ↔ (((q ≡ id) × (v ≡ at)) ⊎ Has m q v)) (sym (get-insert nat_cmp_total m id at q))
    (by_id q id (λ b. (cond b (Some at) (map.get m q) ≡ Some v) ↔ (((q ≡ id) × (v ≡ at)) ⊎ Has m q v))
    (λ e. (λ h. inl (e, sym (some_is at v h)), λ s. elim s [ inl k ↦ ap (λ (x : Moment). Some x) (sym k.1) | inr k ↦ absurd (none-some v (sym (ap (map.get m) e ∙ absent) ∙ k)) ]))
    (λ n. (λ h. inr h, λ s. elim s [ inl k ↦ absurd (n k.0) | inr k ↦ k ])))

-- what is left after a removal
pub has_left : (m : Moments) (id q : ℕ) (v : Moment) → Has (map.remove m id) q v ↔ ((q ≢ id) × Has m q v)
has_left m id q v = subst (λ (o : Option Moment). (o ≡ Some v) ↔ ((q ≢ id) × Has m q v)) (sym (get-remove nat_cmp_total m id q))
    (by_id q id (λ b. (cond b None (map.get m q) ≡ Some v) ↔ ((q ≢ id) × Has m q v))
    (λ e. (λ h. absurd (none-some v h), λ k. absurd (k.0 e)))
    (λ n. (λ h. (n, h), λ k. k.1)))

-- an id beside the map isn't in front of the list, too
later : (m : Moments) (id : ℕ) (ids : List ℕ) → AreBeside m (id ∷ ids) → AreBeside m ids
later m id ids h = record { canonical = h.canonical; once = λ i j z e f. let s : suc i ≡ suc j = h.once (suc i) (suc j) z e f in omega arith; absent = λ q c. h.absent q (contains_tail id q ids c) }

not_again : (m : Moments) (id : ℕ) (ids : List ℕ) → AreBeside m (id ∷ ids) → ¬ (Contains ids id)
not_again m id ids h c = let p = get_from_contains ids id c in let s : 0 ≡ suc p.0 = h.once 0 (suc p.0) id refl p.1 in omega arith

-- an id that neither the map nor the list has
none_from : (m n : Moments) (at : Moment) (ids : List ℕ) (q : ℕ) → ((v : Moment) → Has n q v ↔ ((Contains ids q × (v ≡ at)) ⊎ Has m q v)) → map.get m q ≡ None → ¬ (Contains ids q) → map.get n q ≡ None
none_from m n at ids q h none apart = here (map.get n q) refl
  where
    here : (o : Option Moment) → map.get n q ≡ o → map.get n q ≡ None
    here None e = e
    here (Some v) e = elim ((h v).0 e) [
      | inl c ↦ absurd (apart c.0)
      | inr k ↦ absurd (none-some v (sym none ∙ k))
    ]

-- what the map with ids beside it has
pub has_each : (m : Moments) (at : Moment) (ids : List ℕ) → AreBeside m ids → (q : ℕ) (v : Moment) → Has (with_each m at ids) q v ↔ ((Contains ids q × (v ≡ at)) ⊎ Has m q v)
has_each m at [] h q v = (λ k. inr k, λ s. elim s [ inl k ↦ absurd (contains_none q k.0) | inr k ↦ k ])
has_each m at (id ∷ ids) h q v =
    let rest = has_each m at ids (later m id ids h) q v in
    let free : map.get (with_each m at ids) id ≡ None = none_from m (with_each m at ids) at ids id (has_each m at ids (later m id ids h) id) (h.absent id (contains_head id ids)) (not_again m id ids h) in
    let here = has_inserted (with_each m at ids) id at free q v in (
      λ k. elim (here.0 k) [
        | inl e ↦ inl (subst (λ (x : ℕ). Contains (id ∷ ids) x) (sym e.0) (contains_head id ids), e.1)
        | inr r ↦ elim (rest.0 r) [
          | inl c ↦ inl (contains_tail id q ids c.0, c.1)
          | inr c ↦ inr c
        ]
      ],
      λ s. here.1 (elim s [
        | inl c ↦ elim (contains_cases id q ids c.0) [
          | inl e ↦ inl (sym e, c.1)
          | inr r ↦ inr (rest.1 (inl (r, c.1)))
        ]
        | inr c ↦ inr (rest.1 (inr c))
      ]),
    )

-- an id that is nowhere
module _ (m : Moments) (at : Moment) (ids : List ℕ) (h : AreBeside m ids) (id : ℕ) (free : map.get (with_each m at ids) id ≡ None) where
  pub not_listed : ¬ (Contains ids id)
  not_listed c = none-some at (sym free ∙ (has_each m at ids h id at).1 (inl (c, refl)))

  pub not_mapped : map.get m id ≡ None
  not_mapped = here (map.get m id) refl
    where
      here : (o : Option Moment) → map.get m id ≡ o → map.get m id ≡ None
      here None e = e
      here (Some v) e = absurd (none-some v (sym free ∙ (has_each m at ids h id v).1 (inr e)))

  -- it comes beside the map
  pub pushed_beside : AreBeside m (ids ++ id ∷ [])
  pushed_beside = record {
    canonical = h.canonical;
    once = distinct_append ids (id ∷ []) h.once (distinct_cons id [] (contains_none id) distinct_none) (λ q c d. elim (contains_cases id q [] d) [
      | inl e ↦ not_listed (subst (λ (x : ℕ). Contains ids x) (sym e) c)
      | inr n ↦ contains_none q n
    ]);
    absent = λ q c. elim (Contains-push_cases ids id q c) [
      | inl d ↦ h.absent q d
      | inr e ↦ ap (map.get m) (sym e) ∙ not_mapped
    ];
  }

  pub pushed_is : with_each m at (ids ++ id ∷ []) ≡ map.insert (with_each m at ids) id at
  pushed_is = same_moments _ _ (λ q v.
      let more = has_each m at (ids ++ id ∷ []) pushed_beside q v in
      let fewer = has_each m at ids h q v in
      let put = has_inserted (with_each m at ids) id at free q v in (
        λ k. put.1 (elim (more.0 k) [
          | inl c ↦ elim (Contains-push_cases ids id q c.0) [
            | inl d ↦ inr (fewer.1 (inl (d, c.1)))
            | inr e ↦ inl (sym e, c.1)
          ]
          | inr c ↦ inr (fewer.1 (inr c))
        ]),
        λ k. more.1 (elim (put.0 k) [
          | inl e ↦ inl (subst (λ (x : ℕ). Contains (ids ++ id ∷ []) x) (sym e.0) (Contains-push ids id), e.1)
          | inr r ↦ elim (fewer.0 r) [
            | inl c ↦ inl (Contains-append_left ids (id ∷ []) q c.0, c.1)
            | inr c ↦ inr c
          ]
        ]),
      ))

  -- it comes into the map
  module _ (w : Moment) (canonical : IsCanonical w.at) where
    pub mapped_beside : AreBeside (map.insert m id w) ids
    mapped_beside = record {
      canonical = λ q v k. elim ((has_inserted m id w not_mapped q v).0 k) [
        | inl e ↦ subst (λ (x : Moment). IsCanonical x.at) (sym e.1) canonical
        | inr r ↦ h.canonical q v r
      ];
      once = h.once;
      absent = λ q c. get-insert nat_cmp_total m id w q ∙ ap (λ (b : Bool). cond b (Some w) (map.get m q)) (differ q id (λ e. not_listed (subst (λ (x : ℕ). Contains ids x) e c))) ∙ h.absent q c;
    }

    pub mapped_is : with_each (map.insert m id w) at ids ≡ map.insert (with_each m at ids) id w
    mapped_is = same_moments _ _ (λ q v.
        let more = has_each (map.insert m id w) at ids mapped_beside q v in
        let fewer = has_each m at ids h q v in
        let put = has_inserted (with_each m at ids) id w free q v in
        let in_map = has_inserted m id w not_mapped q v in (
          λ k. put.1 (elim (more.0 k) [
            | inl c ↦ inr (fewer.1 (inl c))
            | inr r ↦ elim (in_map.0 r) [
              | inl e ↦ inl e
              | inr c ↦ inr (fewer.1 (inr c))
            ]
          ]),
          λ k. more.1 (elim (put.0 k) [
            | inl e ↦ inr (in_map.1 (inl e))
            | inr r ↦ elim (fewer.0 r) [
              | inl c ↦ inl c
              | inr c ↦ inr (in_map.1 (inr c))
            ]
          ]),
        ))

-- an id of the map goes
module _ (m : Moments) (at : Moment) (ids : List ℕ) (h : AreBeside m ids) (id : ℕ) (some : IsSome (map.get m id)) where
  mapped_not_listed : ¬ (Contains ids id)
  mapped_not_listed c = let e : false ≡ true = subst (λ (o : Option Moment). IsSome o) (h.absent id c) some in cc

  pub unmapped_beside : AreBeside (map.remove m id) ids
  unmapped_beside = record {
    canonical = λ q v k. h.canonical q v ((has_left m id q v).0 k).1;
    once = h.once;
    absent = λ q c. get-remove nat_cmp_total m id q ∙ ap (λ (b : Bool). cond b None (map.get m q)) (differ q id (λ e. mapped_not_listed (subst (λ (x : ℕ). Contains ids x) e c))) ∙ h.absent q c;
  }

  pub unmapped_is : with_each (map.remove m id) at ids ≡ map.remove (with_each m at ids) id
  unmapped_is = same_moments _ _ (λ q v.
      let less = has_each (map.remove m id) at ids unmapped_beside q v in
      let all = has_each m at ids h q v in
      let out = has_left (with_each m at ids) id q v in
      let in_map = has_left m id q v in (
        λ k. out.1 (elim (less.0 k) [
          | inl c ↦ ((λ e. mapped_not_listed (subst (λ (x : ℕ). Contains ids x) e c.0)), all.1 (inl c))
          | inr r ↦ let o = in_map.0 r in (o.0, all.1 (inr o.1))
        ]),
        λ k. let o = out.0 k in less.1 (elim (all.0 o.1) [
          | inl c ↦ inl c
          | inr c ↦ inr (in_map.1 (o.0, c))
        ]),
      ))

-- an id of the list goes: the shorter list has all others
module _ (m : Moments) (at : Moment) (ids rest : List ℕ) (h : AreBeside m ids) (id : ℕ) (listed : Contains ids id) (once : AreDistinct rest) (others : (q : ℕ) → Contains rest q ↔ ((q ≢ id) × Contains ids q)) where
  pub unlisted_beside : AreBeside m rest
  unlisted_beside = record { canonical = h.canonical; once = once; absent = λ q c. h.absent q ((others q).0 c).1 }

  pub unlisted_is : with_each m at rest ≡ map.remove (with_each m at ids) id
  unlisted_is = same_moments _ _ (λ q v.
      let less = has_each m at rest unlisted_beside q v in
      let all = has_each m at ids h q v in
      let out = has_left (with_each m at ids) id q v in (
        λ k. out.1 (elim (less.0 k) [
          | inl c ↦ let o = (others q).0 c.0 in (o.0, all.1 (inl (o.1, c.1)))
          | inr r ↦ ((λ e. none-some v (sym (h.absent id listed) ∙ ap (map.get m) (sym e) ∙ r)), all.1 (inr r))
        ]),
        λ k. let o = out.0 k in less.1 (elim (all.0 o.1) [
          | inl c ↦ inl ((others q).1 (o.0, c.0), c.1)
          | inr c ↦ inr c
        ]),
      ))

-- the last id of a list goes
module _ (m : Moments) (at : Moment) (rest : List ℕ) (id : ℕ) (h : AreBeside m (rest ++ id ∷ [])) where
  rest_once : AreDistinct rest
  rest_once i j z e f = h.once i j z (get_front rest (id ∷ []) i z e) (get_front rest (id ∷ []) j z f)

  rest_others : (q : ℕ) → Contains rest q ↔ ((q ≢ id) × Contains (rest ++ id ∷ []) q)
  rest_others q = (
    λ c. (
      (λ e.
          let p = get_from_contains rest q c in
          let s : p.0 ≡ length rest = h.once p.0 (length rest) q (get_front rest (id ∷ []) p.0 q p.1) (get_last rest id ∙ ap (λ (x : ℕ). Some x) (sym e)) in
          let lt = slice_get_within rest p.0 q p.1 in
          omega arith),
      Contains-append_left rest (id ∷ []) q c,
    ),
    λ c. elim (Contains-push_cases rest id q c.1) [
      | inl d ↦ d
      | inr e ↦ absurd (c.0 (sym e))
    ],
  )

  pub popped_beside : AreBeside m rest
  popped_beside = unlisted_beside m at (rest ++ id ∷ []) rest h id (Contains-push rest id) rest_once rest_others

  pub popped_is : with_each m at rest ≡ map.remove (with_each m at (rest ++ id ∷ [])) id
  popped_is = unlisted_is m at (rest ++ id ∷ []) rest h id (Contains-push rest id) rest_once rest_others

-- an id that is there stands in the map or in the list
pub where_it_is : (m : Moments) (at : Moment) (ids : List ℕ) → AreBeside m ids → (id : ℕ) → IsSome (map.get (with_each m at ids) id) → ¬ (IsSome (map.get m id)) → Contains ids id
where_it_is m at ids h id some not_in_map = here (map.get (with_each m at ids) id) refl
  where
    here : (o : Option Moment) → map.get (with_each m at ids) id ≡ o → Contains ids id
    here None e = absurd (let n : false ≡ true = subst (λ (x : Option Moment). IsSome x) e some in cc)
    here (Some v) e = elim ((has_each m at ids h id v).0 e) [
      | inl c ↦ c.0
      | inr k ↦ absurd (not_in_map (subst (λ (x : Option Moment). IsSome x) (sym k) refl))
    ]

pub empty_beside : (m : Moments) (ids : List ℕ) → m ≡ map.empty → ids ≡ [] → AreBeside m ids
empty_beside m ids e f = record {
  canonical = λ q v k. absurd (none-some v (sym (ap (λ (x : Moments). map.get x q) e ∙ get-empty nat_cmp q) ∙ k));
  once = subst (λ (xs : List ℕ). AreDistinct xs) (sym f) distinct_none;
  absent = λ q c. absurd (contains_none q (subst (λ (xs : List ℕ). Contains xs q) f c));
}

-- the moment of a list without ids means nothing
pub at_either : (m : Moments) (at w : Moment) (ids : List ℕ) → (ids ≡ []) ⊎ (at ≡ w) → with_each m at ids ≡ with_each m w ids
at_either m at w ids (inl e) = ap (with_each m at) e ∙ sym (ap (with_each m w) e)
at_either m at w ids (inr e) = ap (λ (x : Moment). with_each m x ids) e

pub some_listed : (ids : List ℕ) → ids ≢ [] → (id : ℕ) × Contains ids id
some_listed [] n = absurd (n refl)
some_listed (id ∷ ids) n = (id, contains_head id ids)

pub none_listed : (ids : List ℕ) (id : ℕ) → ((i : ℕ) → i < length ids → slice_get ids i ≢ Some id) → ¬ (Contains ids id)
none_listed ids id n c = let p = get_from_contains ids id c in n p.0 (slice_get_within ids p.0 id p.1) p.1

-- the least moment
module _ (m : Moments) (at : Moment) (ids : List ℕ) (h : AreBeside m ids) (canonical : IsCanonical at.at) where
  -- where the map has none
  pub only_listed : m ≡ map.empty → (id : ℕ) → Contains ids id → IsLeast (with_each m at ids) (id, at)
  only_listed empty id c = record {
    there = (has_each m at ids h id at).1 (inl (c, refl));
    least = λ q v k. elim ((has_each m at ids h q v).0 k) [
      | inl l ↦ subst (λ (x : Moment). ¬ (IsEarlier x at)) (sym l.1) (not_earlier_itself at)
      | inr r ↦ absurd (none-some v (sym (ap (λ (x : Moments). map.get x q) empty ∙ get-empty nat_cmp q) ∙ r))
    ];
  }

  module _ (next : ℕ × Moment) (first : IsLeast m next) where
    next_canonical : IsCanonical next.1.at
    next_canonical = h.canonical next.0 next.1 first.there

    -- where the map's least is earlier than the list
    pub mapped_least : ((q : ℕ) → Contains ids q → IsEarlier next.1 at) → IsLeast (with_each m at ids) next
    mapped_least earlier = record {
      there = (has_each m at ids h next.0 next.1).1 (inr first.there);
      least = λ q v k. elim ((has_each m at ids h q v).0 k) [
        | inl l ↦ λ e. not_earlier_itself next.1 (earlier_trans next.1 at next.1 next_canonical.form canonical.form next_canonical.form (earlier q l.0) (subst (λ (x : Moment). IsEarlier x next.1) l.1 e))
        | inr r ↦ first.least q v r
      ];
    }

    -- where it isn't
    pub listed_least : ¬ (IsEarlier next.1 at) → (id : ℕ) → Contains ids id → IsLeast (with_each m at ids) (id, at)
    listed_least not_earlier id c = record {
      there = (has_each m at ids h id at).1 (inl (c, refl));
      least = λ q v k. elim ((has_each m at ids h q v).0 k) [
        | inl l ↦ subst (λ (x : Moment). ¬ (IsEarlier x at)) (sym l.1) (not_earlier_itself at)
        | inr r ↦ not_earlier_trans at next.1 v canonical.form next_canonical.form (h.canonical q v r).form not_earlier (first.least q v r)
      ];
    }

-- nothing is at a moment that neither the list has nor the map's first
module _ (m : Moments) (at : Moment) (ids : List ℕ) (h : AreBeside m ids) (moment : Moment) (other : (ids ≡ []) ⊎ (at ≢ moment)) where
  pub only_mapped : (id : ℕ) → Has (with_each m at ids) id moment → Has m id moment
  only_mapped id k = elim ((has_each m at ids h id moment).0 k) [
    | inl c ↦ elim other [
      | inl e ↦ absurd (contains_none id (subst (λ (xs : List ℕ). Contains xs id) e c.0))
      | inr n ↦ absurd (n (sym c.1))
    ]
    | inr r ↦ r
  ]
