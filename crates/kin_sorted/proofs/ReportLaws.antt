-- A link is written, and the change is told.
use Rattle.std.proofs.Common.{◌≡◌, ◌≢◌, refl, sym, ap, ◌∙◌, subst, arith, List, [], ◌∷◌, ◌++◌, ℕ, zero, suc, ◌+◌, ◌<◌, ◌≤◌, length, map, set, Some, None, Option, false, inl, inr}
use Rattle.std.specs.Prelude.{slice_get, ◌⊎◌}
use Rattle.std.proofs.lemmas.Bool.{cases_eq, cases_lt, cases_order, both_ways}
use Rattle.std.proofs.lemmas.List.{set_past, append_assoc, map-append}
use Rattle.std.proofs.lemmas.Option.{same_Some}
use Rattle.kin_algebra.proofs.Signs.{equal_or_not}
use Rattle.kin_algebra.proofs.Places.{get_within, get-set_same, get-set_other}
use Rattle.kin_motion.specs.declared.fact.Placed.{Placed}
use Rattle.kin_motion.specs.Deltas.{Change}
use Rattle.kin_motion.specs.Kinetics.{HasChanged}
use Rattle.kin_motion.specs.Parts.{moved_by}
use Rattle.kin_motion.specs.Numbers.{is_in}
use Rattle.kin_sorted.specs.declared.link.Link.{Link}
use Rattle.kin_motion.specs.Rankings.{IsRanking}
use Rattle.kin_motion.specs.Ranks.{Ranks}
use Rattle.kin_sorted.specs.Links.{link_facts, facts_from}
use Rattle.kin_sorted.specs.Telling.{nothing_told, told_more, IsToldIn}
use Rattle.kin_sorted.proofs.ChangeLaws.{changed_at}
use Rattle.kin_sorted.proofs.RowLaws.{is_in_from_get}

same_link_or_not : (o n : Option Link) → (o ≡ n) ⊎ (o ≢ n)
same_link_or_not None None = inl refl
same_link_or_not None (Some n) = inr (λ e. absurd cc)
same_link_or_not (Some o) None = inr (λ e. absurd cc)
same_link_or_not (Some o) (Some n) = elim (cases_eq o.right n.right) [
  | inl e ↦ elim (equal_or_not o.sign n.sign) [
    | inl f ↦ inl (ap (λ (l : Link). Some l) (λ t. record { right = e t; sign = f t }))
    | inr d ↦ inr (λ g. d (ap (λ (l : Link). l.sign) (same_Some o n g)))
  ]
  | inr d ↦ inr (λ g. d (ap (λ (l : Link). l.right) (same_Some o n g)))
]

pub set_same : {A : Type 0} (xs : List A) (i : ℕ) (x : A) → slice_get xs i ≡ Some x → set xs i x ≡ xs
set_same [] i x h = refl
set_same (y ∷ ys) zero x h = ap (λ z. z ∷ ys) (sym (same_Some y x h))
set_same (y ∷ ys) (suc i) x h = ap (λ zs. y ∷ zs) (set_same ys i x h)

-- what was told, and more
grown : (f : Placed → Placed) (start middle now before more : List Placed) → middle ≡ start ++ map f before → now ≡ middle ++ map f more → now ≡ start ++ map f (before ++ more)
grown f start middle now before more e g =
    g ∙ ap (λ (l : List Placed). l ++ map f more) e ∙ append_assoc start (map f before) (map f more) ∙ ap (λ (l : List Placed). start ++ l) (sym (map-append f before more))

module _ (r : Ranks) (law : IsRanking r) (first ls ls' : List (Option Link)) (i : ℕ) (new : Option Link) (written : ls' ≡ set ls i new) where
  abbrev links_told : Option Link → Change
  links_told old = record { dropped = link_facts r i old; born = link_facts r i new }

  pub renewed : (part : ℕ) (start now now' : Change) → (slice_get ls i ≡ slice_get first i) ⊎ (slice_get ls i ≡ Some new)
      → (length ls ≤ i → now' ≡ now) → (slice_get ls i ≡ Some new → now' ≡ now)
      → ((old : Option Link) → slice_get ls i ≡ Some old → old ≢ new → now' ≡ told_more part now (links_told old))
      → IsToldIn part (facts_from r 0 first) (facts_from r 0 ls) start now → IsToldIn part (facts_from r 0 first) (facts_from r 0 ls') start now'
  renewed part start now now' each past kept changed before = elim (cases_lt i (length ls)) [
    | inl l ↦ (let g = get_within ls i l in elim (same_link_or_not g.0 new) [
      | inl e ↦ (let here : slice_get ls i ≡ Some new = g.1 ∙ ap (λ (o : Option Link). Some o) e in still (written ∙ set_same ls i new here) (kept here))
      | inr n ↦ another g.0 g.1 n
    ])
    | inr l ↦ still (written ∙ set_past ls i new l) (past l)
  ]
    where
      still : ls' ≡ ls → now' ≡ now → IsToldIn part (facts_from r 0 first) (facts_from r 0 ls') start now'
      still e f = record {
        change = before.change;
        changed = subst (λ xs. HasChanged (facts_from r 0 first) (facts_from r 0 xs) nothing_told before.change) (sym e) before.changed;
        told = f ∙ before.told;
      }

      at_first : (old : Option Link) → slice_get ls i ≡ Some old → old ≢ new → (slice_get ls i ≡ slice_get first i) ⊎ (slice_get ls i ≡ Some new) → slice_get first i ≡ Some old
      at_first old at n (inl a) = sym a ∙ at
      at_first old at n (inr b) = absurd (n (same_Some old new (sym at ∙ b)))

      another : (old : Option Link) → slice_get ls i ≡ Some old → old ≢ new → IsToldIn part (facts_from r 0 first) (facts_from r 0 ls') start now'
      another old at n =
          let was = before.change in
          let more : Change = record { dropped = was.dropped ++ link_facts r i old; born = was.born ++ link_facts r i new } in
          let e = changed old at n in
          let dropped : now'.dropped ≡ start.dropped ++ map (moved_by part) more.dropped = grown (moved_by part) start.dropped now.dropped now'.dropped was.dropped (link_facts r i old)
          (ap (λ (c : Change). c.dropped) before.told) (ap (λ (c : Change). c.dropped) e) in
          let born : now'.born ≡ start.born ++ map (moved_by part) more.born = grown (moved_by part) start.born now.born now'.born was.born (link_facts r i new)
          (ap (λ (c : Change). c.born) before.told) (ap (λ (c : Change). c.born) e) in
          record {
            change = more;
            changed = subst (λ xs. HasChanged (facts_from r 0 first) (facts_from r 0 xs) nothing_told more) (sym written)
                (changed_at r law first ls i old new (at_first old at n each) at n nothing_told was before.changed);
            told = λ t. record { dropped = dropped t; born = born t };
          }

  -- every link is as it was or as it has to be
  pub renewed_each : (target : ℕ → Option Link) → new ≡ target i → ((j : ℕ) → (slice_get ls j ≡ slice_get first j) ⊎ (slice_get ls j ≡ Some (target j))) → (j : ℕ)
      → (slice_get ls' j ≡ slice_get first j) ⊎ (slice_get ls' j ≡ Some (target j))
  renewed_each target e each j = elim (cases_eq j i) [
    | inl f ↦ elim (cases_lt i (length ls)) [
      | inl l ↦ inr (ap (slice_get ls') f ∙ ap (λ (xs : List (Option Link)). slice_get xs i) written ∙ get-set_same ls i new l ∙ ap (λ (o : Option Link). Some o) (e ∙ ap target (sym f)))
      | inr l ↦ (let same : slice_get ls' j ≡ slice_get ls j = ap (λ (xs : List (Option Link)). slice_get xs j) (written ∙ set_past ls i new l) in elim (each j) [
        | inl a ↦ inl (same ∙ a)
        | inr b ↦ inr (same ∙ b)
      ])
    ]
    | inr n ↦ (let same : slice_get ls' j ≡ slice_get ls j = ap (λ (xs : List (Option Link)). slice_get xs j) written ∙ get-set_other ls i j new n in elim (each j) [
      | inl a ↦ inl (same ∙ a)
      | inr b ↦ inr (same ∙ b)
    ])
  ]

  pub renewed_done : (target : ℕ → Option Link) (touched : List ℕ) (index : ℕ) → new ≡ target i → slice_get touched index ≡ Some i → length ls ≡ length first
      → ((k j : ℕ) → k < index → slice_get touched k ≡ Some j → j < length first → slice_get ls j ≡ Some (target j))
      → (k j : ℕ) → k < index + 1 → slice_get touched k ≡ Some j → j < length first → slice_get ls' j ≡ Some (target j)
  renewed_done target touched index e at same done k j l h m = elim (cases_eq j i) [
    | inl f ↦ ap (slice_get ls') f ∙ ap (λ (xs : List (Option Link)). slice_get xs i) written ∙ get-set_same ls i new (omega arith) ∙ ap (λ (o : Option Link). Some o) (e ∙ ap target (sym f))
    | inr n ↦ ap (λ (xs : List (Option Link)). slice_get xs j) written ∙ get-set_other ls i j new n ∙ done k j (elim (cases_order k index) [
      | inl a ↦ absurd (n (same_Some j i (sym h ∙ ap (slice_get touched) a ∙ at)))
      | inr c ↦ elim c [
        | inl b ↦ b
        | inr b ↦ absurd (omega arith)
      ]
    ]) h m
  ]

  pub renewed_others : (touched : List ℕ) (index : ℕ) → slice_get touched index ≡ Some i → ((j : ℕ) → is_in j touched ≡ false → slice_get ls j ≡ slice_get first j) → (j : ℕ)
      → is_in j touched ≡ false → slice_get ls' j ≡ slice_get first j
  renewed_others touched index at others j out =
      ap (λ (xs : List (Option Link)). slice_get xs j) written ∙ get-set_other ls i j new (λ e. both_ways _ out (is_in_from_get touched index j (at ∙ ap (λ (m : ℕ). Some m) (sym e))))
      ∙ others j out
