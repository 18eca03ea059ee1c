-- The certificates of live facts, and how many failure moments were made: what was made adds up, if the structures are changed in turn.
use Rattle.std.proofs.Common.{refl, ◌≡◌, ℕ, ◌+◌, ◌≤◌, ◌⊎◌, inl, inr, sym, ap, ◌∙◌, arith, List, ◌++◌, length-append, ◌≢◌, ◌↔◌, Contains, subst}
use Rattle.kin_world.proofs.Vocabulary.{cases_eq, Certificate, contains_map, contains_mapped, exactly_both, exactly_in_words, Facts, IsAt, LiveFact, certificates_of, AreLeft, HasComeTo, HasTimedNew}

-- a fact is at the owner and of the form that its certificate tells
pub at_its : (l : LiveFact) (c : Certificate) → l.certificate ≡ c → IsAt c.structure c.placed.part c.placed.fact.form l
at_its l c e = record { structure_is = ap (λ (x : Certificate). x.structure) e; part_is = ap (λ (x : Certificate). x.placed.part) e; form_is = ap (λ (x : Certificate). x.placed.fact.form) e }

-- a live fact has this certificate
abbrev pub IsOneOf : List LiveFact → Certificate → Type 0
IsOneOf live c = (l : LiveFact) × Contains live l × (l.certificate ≡ c)

-- a certificate of the first is one of the second, where a fact of the second has it, too
pub listed_through : (from to : List LiveFact) (c : Certificate) → ((l : LiveFact) → Contains from l → l.certificate ≡ c → IsOneOf to l.certificate) → Contains (certificates_of from) c → Contains (certificates_of to) c
listed_through from to c each there =
    let l = contains_mapped (λ (x : LiveFact). x.certificate) from c there in
    let k = each l.0 l.1 (sym l.2) in
    subst (λ (x : Certificate). Contains (certificates_of to) x) (k.2 ∙ sym l.2) (contains_map (λ (x : LiveFact). x.certificate) to k.0 k.1)

-- both have the same certificates
pub record HaveSameCertificates (old new : List LiveFact) : Type 0 where
  pub stay : (l : LiveFact) → Contains old l → IsOneOf new l.certificate
  pub only : (l : LiveFact) → Contains new l → IsOneOf old l.certificate

pub same_listed : {old new : List LiveFact} → HaveSameCertificates old new → (c : Certificate) → Contains (certificates_of old) c ↔ Contains (certificates_of new) c
same_listed {old} {new} same c = (listed_through old new c (λ l there is. same.stay l there), listed_through new old c (λ l there is. same.only l there))

-- the certificate is in the second table and not in the first
abbrev IsNew : Facts → Facts → Certificate → Type 0
IsNew old new x = Contains (certificates_of new.live) x × ¬ (Contains (certificates_of old.live) x)

-- the structure k is told, after those below it: only certificates of structures below k were new, and only such of k are added
pub come_on : (reached k : ℕ) (start b c : Facts) → reached ≤ k → HasComeTo reached start b → AreLeft k b.live c.live → HasTimedNew b c → HasComeTo (k + 1) start c
come_on reached k start b c low come left made = record {
  made = record {
    born = come.made.born ++ made.born;
    exactly = exactly_in_words (come.made.born ++ made.born) _ _ (λ x. (either x, one x)) (exactly_both come.made.born made.born _ _ come.made.exactly made.exactly (λ x new later. later.1 new.0));
    count = omega (arith, length-append come.made.born made.born, come.made.count, made.count);
  };
  ahead = λ x above.
      let first = ahead x (omega (arith, above)) in
      let second = others x (λ e. omega (arith, above, e)) in
      (λ there. second.0 (first.0 there), λ there. first.1 (second.1 there));
}
  where
    ahead : (x : Certificate) → k ≤ x.structure → Contains (certificates_of start.live) x ↔ Contains (certificates_of b.live) x
    ahead x above = come.ahead x (omega (arith, low, above))

    others : (x : Certificate) → x.structure ≢ k → Contains (certificates_of b.live) x ↔ Contains (certificates_of c.live) x
    others x apart = (
      listed_through b.live c.live x (λ l there is. (l, (left l (λ e. apart (sym (ap (λ (y : Certificate). y.structure) is) ∙ e))).0 there, refl)),
      listed_through c.live b.live x (λ l there is. (l, (left l (λ e. apart (sym (ap (λ (y : Certificate). y.structure) is) ∙ e))).1 there, refl)),
    )

    either : (x : Certificate) → IsNew start b x ⊎ IsNew b c x → IsNew start c x
    either x (inl new) = ((others x (λ e. new.1 ((ahead x (omega (arith, e))).1 new.0))).0 new.0, new.1)
    either x (inr new) = (
      new.0,
      λ there. elim (cases_eq x.structure k) [
        | inl e ↦ new.1 ((ahead x (omega (arith, e))).0 there)
        | inr apart ↦ new.1 ((others x apart).1 new.0)
      ],
    )

    one : (x : Certificate) → IsNew start c x → IsNew start b x ⊎ IsNew b c x
    one x new = elim (cases_eq x.structure k) [
      | inl e ↦ inr (new.0, λ there. new.1 ((ahead x (omega (arith, e))).1 there))
      | inr apart ↦ inl ((others x apart).1 new.0, new.1)
    ]
