-- Facts given out one by one.
use Rattle.std.proofs.Common.{◌≡◌, ◌≢◌, Bool, true, false, ℤ, List, [], ◌∷◌, ◌++◌, get_or, IsTrue, refl, sym, ap, subst, ◌∙◌, ◌⊎◌, inl, inr, arith}
use Rattle.kin_algebra.proofs.Members.{contains_none}
use Rattle.std.proofs.lemmas.List.Elements.{Contains-get_or, Contains-push, Contains-push_cases, Contains-append_left}
use Rattle.std.specs.List.{Contains, AllPairs}
use Rattle.std.proofs.lemmas.List.Quantifiers.{all_pairs_push}
use Rattle.kin_num.specs.declared.instant.Moment.{Moment}
use Rattle.kin_motion.specs.Live.{Certificate}
use Rattle.kin_fail.specs.declared.owned.Owned.{Owned}
use Rattle.kin_fail.specs.Blocks.{certificate_of}
use Rattle.kin_cert.specs.Facts.{LiveFact, NoneAlike, IsAt}
use Rattle.kin_cert.specs.Taken.{NoneWaits}
use Rattle.kin_fail.specs.Rank.{is_rank, padded_rank, owned_rank}
use Rattle.kin_cert.specs.Layout.{IsDue, HasGiven, IsGivenUpTo}
use Rattle.kin_cert.proofs.Changes.{once-same}
use Rattle.kin_fail.proofs.Ranks.{rank_names, rank_same, rank_itself}

contradicts : (b : Bool) → b ≡ false → IsTrue b → ⊥
contradicts b f t = let both : false ≡ true = sym f ∙ t in absurd cc

pub given-none : (m : Moment) (old : List LiveFact) (taken : List Owned) → taken ≡ [] → NoneWaits old → IsDue old m → IsGivenUpTo m old old taken
given-none m old taken empty none due =
    record {
      given = λ o c. absurd (contains_none o (subst (λ (xs : List Owned). Contains xs o) empty c));
      each = λ l c w. absurd (contradicts l.waits (none l c) w);
      once = subst (λ (xs : List Owned). AllPairs (λ o p. owned_rank o ≢ owned_rank p) xs) (sym empty) (λ i j d lt in_. absurd (omega (arith, in_)));
      at_moment = λ l c w. absurd (contradicts l.waits (none l c) w);
      stays = λ l c. (l, c, refl, refl);
      only = λ l c. (l, c, refl, refl);
      least = λ l n c d. due.least l n c d;
    }

named : (o : Owned) (l : LiveFact) → l.certificate ≡ certificate_of o → IsAt o.structure o.part o.fact.form l
named o l e =
    record {
      structure_is = ap (λ (c : Certificate). c.structure) e;
      part_is = ap (λ (c : Certificate). c.placed.part) e;
      form_is = ap (λ (c : Certificate). c.placed.fact.form) e;
    }

-- the same name in another's words
renamed : (o p : Owned) (l : LiveFact) → owned_rank o ≡ owned_rank p → IsAt p.structure p.part p.fact.form l → IsAt o.structure o.part o.fact.form l
renamed o p l r at =
    let n = rank_names o.structure o.part o.fact.form p.structure p.part p.fact.form r in
    record { structure_is = at.structure_is ∙ sym n.structure; part_is = at.part_is ∙ sym n.part; form_is = at.form_is ∙ sym n.form }

abbrev live_rank : LiveFact → List ℤ
live_rank l = padded_rank l.certificate.structure l.certificate.placed.part l.certificate.placed.fact.form

-- two live facts are one or they are two
same_or_not : (live : List LiveFact) → NoneAlike live → (k l : LiveFact) → Contains live k → Contains live l → (k ≡ l) ⊎ ¬ (k ≡ l)
same_or_not live once k l a b =
    elim (is_rank (live_rank k) (live_rank l)) as (λ t. is_rank (live_rank k) (live_rank l) ≡ t → (k ≡ l) ⊎ ¬ (k ≡ l)) [
      | true ↦ λ t.
          let n = rank_names k.certificate.structure k.certificate.placed.part k.certificate.placed.fact.form l.certificate.structure l.certificate.placed.part l.certificate.placed.fact.form (rank_same (live_rank k) (live_rank l) t) in
          inl (once-same live once l.certificate.structure l.certificate.placed.part l.certificate.placed.fact.form k l a b
          (record { structure_is = n.structure; part_is = n.part; form_is = n.form })
          (record { structure_is = refl; part_is = refl; form_is = refl }))
      | false ↦ λ t. inr (λ e. let both : true ≡ false = sym (ap (λ (x : LiveFact). is_rank (live_rank k) (live_rank x)) (sym e) ∙ rank_itself (live_rank k)) ∙ t in absurd cc)
    ] refl

pub given-more : (m : Moment) (old cur new : List LiveFact) (taken : List Owned) (o : Owned) (l : LiveFact) → IsGivenUpTo m old cur taken → NoneAlike cur → HasGiven cur new l m → l.certificate ≡ certificate_of o → IsGivenUpTo m old new (taken ++ o ∷ [])
given-more m old cur new taken o l h once g l_is =
    let marked : LiveFact = record l { waits = true } in
    let there : Contains new marked = (g.exactly marked).1 (inr refl) in
    let stays : (k : LiveFact) → Contains cur k → ¬ (k ≡ l) → Contains new k = λ k c n. (g.exactly k).1 (inl (c, n)) in
    let waits_stays : (k : LiveFact) → Contains cur k → IsTrue k.waits → Contains new k = λ k c w. stays k c (λ e. contradicts k.waits (ap (λ (x : LiveFact). x.waits) e ∙ g.due.waits_not) w) in
    record {
      given = λ p c. elim (Contains-push_cases taken o p c) [
        | inl c' ↦ let k = h.given p c' in (k.0, waits_stays k.0 k.1 k.2, k.2, k.3)
        | inr e ↦ (marked, there, refl, l_is ∙ ap certificate_of e)
      ];
      each = λ k c w. elim ((g.exactly k).0 c) [
        | inl (c', n) ↦ let p = h.each k c' w in (p.0, Contains-append_left taken (o ∷ []) p.0 p.1, p.2)
        | inr e ↦ (o, Contains-push taken o, ap (λ (x : LiveFact). x.certificate) e ∙ l_is)
      ];
      once = all_pairs_push (λ p q. owned_rank p ≢ owned_rank q) taken o h.once (λ i d lt r.
          let p = get_or taken i d in
          let k = h.given p (Contains-get_or taken i d lt) in
          let same_fact : k.0 ≡ l = once-same cur once p.structure p.part p.fact.form k.0 l k.1 g.there (named p k.0 k.3) (renamed p o l r (named o l l_is)) in
          contradicts k.0.waits (ap (λ (x : LiveFact). x.waits) same_fact ∙ g.due.waits_not) k.2);
      at_moment = λ k c w. elim ((g.exactly k).0 c) [
        | inl (c', n) ↦ h.at_moment k c' w
        | inr e ↦ ap (λ (x : LiveFact). x.fails) e ∙ g.due.fails
      ];
      stays = λ k c.
          let s = h.stays k c in
          elim (same_or_not cur once s.0 l s.1 g.there) [
            | inl e ↦ (marked, there, ap (λ (x : LiveFact). x.certificate) (sym e) ∙ s.2, ap (λ (x : LiveFact). x.fails) (sym e) ∙ s.3)
            | inr n ↦ (s.0, stays s.0 s.1 n, s.2, s.3)
          ];
      only = λ k c. elim ((g.exactly k).0 c) [
        | inl (c', n) ↦ h.only k c'
        | inr e ↦ let s = h.only l g.there in (s.0, s.1, ap (λ (x : LiveFact). x.certificate) e ∙ s.2, ap (λ (x : LiveFact). x.fails) e ∙ s.3)
      ];
      least = λ k n c d. elim ((g.exactly k).0 c) [
        | inl (c', n') ↦ h.least k n c' d
        | inr e ↦ absurd (contradicts k.waits d.waits_not (ap (λ (x : LiveFact). x.waits) e))
      ];
    }
