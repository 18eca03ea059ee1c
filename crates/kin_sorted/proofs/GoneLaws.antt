-- A fact of two items that stay names no number that only leaving items name.
use Rattle.std.proofs.Common.{◌≡◌, sym, ap, subst, List, [], ◌∷◌, ℕ, true, false, not, inl, inr, refl}
use Rattle.std.specs.List.{All}
use Rattle.std.proofs.lemmas.Bool.{cases_Bool, both_ways, or_from}
use Rattle.std.proofs.lemmas.List.Elements.{Contains-get_or}
use Rattle.kin_motion.specs.declared.form.Form.{Form}
use Rattle.kin_motion.specs.declared.form.Form.TheVariants.{Line, Turn, Slope, Dist}
use Rattle.kin_motion.specs.Forms.{IsAskable, names}
use Rattle.kin_motion.specs.Numbers.{is_in, IsIn}
use Rattle.kin_motion.proofs.Members.{in_head, in_tail, in_cases, in_from_contains, contains_from_in}
use Rattle.kin_motion.proofs.SetLaws.{filter-sound}
use Rattle.kin_motion.proofs.SetSizes.{contains_joined}
use Rattle.kin_sorted.specs.declared.link.Link.{Link}
use Rattle.kin_motion.specs.Rankings.{IsRanking}
use Rattle.kin_sorted.specs.Links.{fact_of}
use Rattle.kin_sorted.specs.Marks.{Marks, marked, numbers_of, gone_numbers, names_one, names_gone}
use Rattle.kin_motion.specs.Ranks.{Ranks}

-- of four numbers
four : (live : List ℕ) (i j k l n : ℕ) → IsIn i live × IsIn j live × IsIn k live × IsIn l live → is_in n (i ∷ j ∷ k ∷ l ∷ []) ≡ true → IsIn n live
four live i j k l n ok h = elim (in_cases n i (j ∷ k ∷ l ∷ []) h) [
  | inl e ↦ subst (λ m. IsIn m live) (sym e) ok.0
  | inr t ↦ elim (in_cases n j (k ∷ l ∷ []) t) [
    | inl e ↦ subst (λ m. IsIn m live) (sym e) ok.1
    | inr u ↦ elim (in_cases n k (l ∷ []) u) [
      | inl e ↦ subst (λ m. IsIn m live) (sym e) ok.2
      | inr v ↦ elim (in_cases n l [] v) [
        | inl e ↦ subst (λ m. IsIn m live) (sym e) ok.3
        | inr w ↦ absurd cc
      ]
    ]
  ]
]

-- a number that is named is live where the form may be asked for
named_live : (live : List ℕ) (f : Form) (n : ℕ) → IsAskable live f → names f n ≡ true → IsIn n live
named_live live (Line dx dy off i j) n ok h = elim (in_cases n i (j ∷ []) h) [
  | inl e ↦ subst (λ m. IsIn m live) (sym e) ok.i_live
  | inr t ↦ elim (in_cases n j [] t) [
    | inl e ↦ subst (λ m. IsIn m live) (sym e) ok.j_live
    | inr u ↦ absurd cc
  ]
]
named_live live (Turn i j k) n ok h = elim (in_cases n i (j ∷ k ∷ []) h) [
  | inl e ↦ subst (λ m. IsIn m live) (sym e) ok.0
  | inr t ↦ elim (in_cases n j (k ∷ []) t) [
    | inl e ↦ subst (λ m. IsIn m live) (sym e) ok.1
    | inr u ↦ elim (in_cases n k [] u) [
      | inl e ↦ subst (λ m. IsIn m live) (sym e) ok.2
      | inr v ↦ absurd cc
    ]
  ]
]
named_live live (Slope i j k l) n ok h = four live i j k l n ok h
named_live live (Dist i j k l) n ok h = four live i j k l n ok h

module _ (r : Ranks) (law : IsRanking r) (m : Marks) (old : List ℕ) where
  all_named : (i : ℕ) → is_in i (marked m old) ≡ true → All (λ n. IsIn n (numbers_of r (marked m old))) (r.names i)
  all_named i h = λ k d lt. in_from_contains (numbers_of r (marked m old)) _ (contains_joined r.names (marked m old) i _ (contains_from_in (marked m old) i h) (Contains-get_or (r.names i) k d lt))

  none_named : (ns : List ℕ) (f : Form) → ((n : ℕ) → IsIn n ns → names f n ≡ false) → names_one ns f ≡ false
  none_named [] f h = refl
  none_named (n ∷ ns) f h = or_from (names f n) (names_one ns f) (h n (in_head n ns)) (none_named ns f (λ k t. h k (in_tail k n ns t)))

  pub names_kept : (i : ℕ) (l : Link) → is_in i (marked m old) ≡ true → is_in l.right (marked m old) ≡ true → names_gone r m old (fact_of r i l) ≡ false
  names_kept i l a b = none_named (gone_numbers r m old) (r.form i l.right) (λ n h. elim (cases_Bool (names (r.form i l.right) n)) [
    | inl t ↦ (let here = named_live (numbers_of r (marked m old)) (r.form i l.right) n (law.askable (numbers_of r (marked m old)) i l.right (all_named i a) (all_named l.right b)) t in
        let kept = filter-sound (λ k. not (is_in k (numbers_of r (marked m old)))) (numbers_of r m.leaving) n (contains_from_in (gone_numbers r m old) n h) in
        absurd (both_ways _ (ap not here) kept.1))
    | inr f ↦ f
  ])
