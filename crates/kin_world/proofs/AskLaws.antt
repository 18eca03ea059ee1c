-- What a table tells of an owner and a form, told of certificates.
use Rattle.kin_world.proofs.Vocabulary.{◌≡◌, ◌↔◌, refl, sym, subst, ℕ, List, Option, Some, None, Contains, IsNone, Certificate, Form, contains_map, contains_mapped, IsAt, LiveFact, certificates_of, certificate}
use Rattle.kin_algebra.specs.declared.sign.Sign.{Sign}
use Rattle.kin_world.proofs.Certificates.{at_its}

-- where there is no answer exactly in a case, the answer is none exactly in that case
pub none_when : {A N : Type 0} (answer : Option A) → (answer ≡ None) ↔ N → IsNone answer ↔ N
none_when None h = (λ x. h.0 refl, λ n. refl)
none_when (Some a) h = (λ x. absurd cc, λ n. let e : Some a ≡ None = h.1 n in absurd cc)

module _ (live : List LiveFact) (structure part : ℕ) (form : Form) where
  -- a live fact of the owner and the form has the certificate with its sign
  pub has_certificate : (sign : Sign) → (l : LiveFact) × Contains live l × IsAt structure part form l × (l.certificate.placed.fact.sign ≡ sign) → Contains (certificates_of live) (certificate structure part form sign)
  has_certificate sign (l, there, at, is) =
      let e : l.certificate ≡ certificate structure part form sign = λ i. record { structure = at.structure_is i; placed = record { part = at.part_is i; fact = record { form = at.form_is i; sign = is i } } } in
      subst (λ (c : Certificate). Contains (certificates_of live) c) e (contains_map (λ (k : LiveFact). k.certificate) live l there)

  -- so there is no such fact exactly where there is no such certificate
  pub no_certificate : ((l : LiveFact) → Contains live l → ¬ (IsAt structure part form l)) ↔ ((sign : Sign) → ¬ (Contains (certificates_of live) (certificate structure part form sign)))
  no_certificate = (
    λ none sign there. let l = contains_mapped (λ (k : LiveFact). k.certificate) live _ there in none l.0 l.1 (at_its l.0 (certificate structure part form sign) (sym l.2)),
    λ never l there at. never l.certificate.placed.fact.sign (has_certificate l.certificate.placed.fact.sign (l, there, at, refl)),
  )
