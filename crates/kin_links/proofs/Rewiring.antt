-- What several writes of pointers make together.
use Rattle.std.proofs.Common.{◌≡◌, ◌≢◌, refl, sym, ◌∙◌, ℕ, Some, Option}
use Rattle.std.proofs.lemmas.Option.{same_Some}
use Rattle.kin_links.specs.declared.node.Gap.{Gap}
use Rattle.kin_links.specs.declared.node.Gap.TheVariants.{Behind}
use Rattle.kin_links.specs.Pointers.{Pointers, HasNext, HasPrev, IsAttached}

module _ {T : Type 0} where
  pub attached : (g h i j k : Pointers T) (node : ℕ) (gap : Gap) (m : Option ℕ) → gap ≢ Behind node → ((n : ℕ) → g.next gap ≡ Some n → n ≢ node) → m ≡ g.next gap
      → HasNext g h gap (Some node) → HasNext h i (Behind node) m → HasPrev i j (Some node) gap → HasPrev j k m (Behind node) → IsAttached g k node gap
  attached g h i j k node gap m apart other same a b c d = record {
    next = d.next gap ∙ c.next gap ∙ b.others gap apart ∙ a.next;
    after = d.next (Behind node) ∙ c.next (Behind node) ∙ b.next ∙ same;
    nexts = λ x n m. d.next x ∙ c.next x ∙ b.others x m ∙ a.others x n;
    prev = d.others node (λ e. other node (sym same ∙ e) refl) ∙ c.prev node refl;
    before = λ n e. d.prev n (same ∙ e);
    prevs = λ n e f. d.others n (λ s. e (sym same ∙ s)) ∙ c.others n (λ s. f (sym (same_Some node n s))) ∙ b.prev n ∙ a.prev n;
    item = λ n. d.item n ∙ c.item n ∙ b.item n ∙ a.item n;
    count = d.count ∙ c.count ∙ b.count ∙ a.count;
  }
