-- Failure moments made anew, one by one.
use Rattle.std.proofs.Common.{◌≡◌, ◌≢◌, refl, sym, ap, subst, ◌∙◌, List, [], ◌∷◌, ◌++◌, length, ℕ, ◌/◌, Option, Some, None, ◌⊎◌, inl, inr}
use Rattle.std.proofs.lemmas.Option.{same_Some, none-some}
use Rattle.std.proofs.lemmas.Bool.{cases_eq}
use Rattle.std.proofs.lemmas.List.Elements.{Contains-append_left, Contains-append_right, Contains-append_cases}
use Rattle.std.specs.List.{Contains}
use Rattle.std.specs.Ordering.{nat_cmp}
use Rattle.std.specs.FinMap as map
use Rattle.std.specs.FinMap.{FinMap}
use Rattle.kin_algebra.proofs.Members.{contains_none, contains_head, contains_cases}
use Rattle.kin_num.specs.declared.instant.Moment.{Moment}
use Rattle.kin_motion.specs.Scene.{Scene}
use Rattle.kin_cert.specs.Entries.{Entry}
use Rattle.kin_cert.specs.declared.entry.Vacancy.{Vacancy}
use Rattle.kin_fail.specs.declared.owned.Owned.{Owned}
use Rattle.kin_fail.specs.Failures.{IsFirstFailure}
use Rattle.kin_cert.specs.Layout.{entry_at, live_in, fresh, timed, HasSlot, IsTable, IsTimed}
use Rattle.kin_cert.specs.Names.{owned_in, HaveSameFacts, IsFreed, IsRenewed, HasRenewed, AreRenewed}
use Rattle.kin_cert.proofs.Slots.{live-set-count}
use Rattle.kin_cert.proofs.Tables.{has-slot, unqueued-table, timed-slot}

-- an entry whose fact is known
pub of-fact : (x : Option Entry) (o : Owned) → owned_in x ≡ Some o → (e : Entry) × (x ≡ Some e) × (e.owned ≡ o)
of-fact None o h = absurd (none-some o h)
of-fact (Some e) o h = (e, refl, same_Some e.owned o h)

module _ (old mid : List (Option Entry)) (id : ℕ) (owned : Owned) (vacancy : Vacancy) (freed : IsFreed old id owned vacancy mid) where
  -- the slot of a fact that is as new
  pub freed-slot : HasSlot old mid id (Some (fresh owned))
  freed-slot =
      subst (λ (o : Owned). HasSlot old mid id (Some (fresh o))) (sym freed.owned_is)
      (subst (λ (xs : List (Option Entry)). HasSlot old xs id (Some (fresh freed.entry.owned))) (sym freed.slots) (has-slot old id freed.entry (Some (fresh freed.entry.owned)) freed.there))

  -- the id is taken out of the queue
  pub freed-table : (moments fewer : FinMap nat_cmp Moment) → IsTable old moments → fewer ≡ map.remove moments vacancy.id → IsTable mid fewer
  freed-table moments fewer table less =
      unqueued-table old mid moments fewer id (Some (fresh owned)) table freed-slot refl (less ∙ ap (λ (s : Vacancy). map.remove moments s.id) freed.vacancy_is)

  pub freed-count : length (live_in mid) ≡ length (live_in old)
  freed-count = ap (λ (xs : List (Option Entry)). length (live_in xs)) freed.slots ∙ live-set-count old id freed.entry (fresh freed.entry.owned) freed.there

  -- and comes back with its first failure
  module _ (scene : Moment → Scene) (now : Moment) (new : List (Option Entry)) (moments later : FinMap nat_cmp Moment) (table : IsTable mid moments) (timed_so : IsTimed scene now owned id mid moments new later) where
    slot : HasSlot mid new id (Some (timed (fresh owned) timed_so.fails))
    slot = timed-slot scene now owned id mid new moments later table freed-slot.changed timed_so

    pub has-renewed : HasRenewed scene now old id new
    has-renewed = record {
      renewed = record {
        entry = freed.entry;
        was = freed.there;
        fails = timed_so.fails;
        first = subst (λ (o : Owned). IsFirstFailure scene now o.fact timed_so.fails) freed.owned_is timed_so.first;
        is = slot.changed ∙ ap (λ (o : Owned). Some (timed (fresh o) timed_so.fails)) freed.owned_is;
      };
      others = λ j n. slot.others j n ∙ freed-slot.others j n;
      count =
          ap (λ (xs : List (Option Entry)). length (live_in xs)) timed_so.slots_are ∙ live-set-count mid id (fresh owned) (timed (fresh owned) timed_so.fails) freed-slot.changed
          ∙ freed-count;
    }

-- a fact that is made anew is the same fact
pub renewed-facts : (scene : Moment → Scene) (now : Moment) (old : List (Option Entry)) (id : ℕ) (new : List (Option Entry)) → HasRenewed scene now old id new → HaveSameFacts old new
renewed-facts scene now old id new h j = elim (cases_eq j id) [
  | inl e ↦ subst (λ (k : ℕ). owned_in (entry_at new k) ≡ owned_in (entry_at old k)) (sym e) (ap owned_in h.renewed.is ∙ sym (ap owned_in h.renewed.was))
  | inr n ↦ ap owned_in (h.others j n)
]

-- one more
module _ (scene : Moment → Scene) (now : Moment) (marks : List ℕ) (m : ℕ) (old mid new : List (Option Entry)) (so_far : AreRenewed scene now marks old mid) (more : HasRenewed scene now mid (m / 4) new) (same : HaveSameFacts mid new) where
  here : IsRenewed scene now (entry_at old (m / 4)) (entry_at new (m / 4))
  here =
      let k = more.renewed in
      let f = of-fact (entry_at old (m / 4)) k.entry.owned (sym (so_far.facts (m / 4)) ∙ ap owned_in k.was) in
      record {
        entry = f.0;
        was = f.1;
        fails = k.fails;
        first = subst (λ (o : Owned). IsFirstFailure scene now o.fact k.fails) (sym f.2) k.first;
        is = k.is ∙ ap (λ (o : Owned). Some (timed (fresh o) k.fails)) (sym f.2);
      }

  pub more-renewed : AreRenewed scene now (marks ++ m ∷ []) old new
  more-renewed = record {
    renewed = λ s h. elim (cases_eq (s / 4) (m / 4)) [
      | inl e ↦ subst (λ (id : ℕ). IsRenewed scene now (entry_at old id) (entry_at new id)) (sym e) here
      | inr n ↦ subst (λ (o : Option Entry). IsRenewed scene now (entry_at old (s / 4)) o) (sym (more.others (s / 4) n)) (so_far.renewed s (before s n (Contains-append_cases marks (m ∷ []) s h)))
    ];
    others = λ id n. more.others id (λ e. n m (Contains-append_right marks (m ∷ []) m (contains_head m [])) (sym e)) ∙ so_far.others id (λ s h. n s (Contains-append_left marks (m ∷ []) s h));
    facts = λ id. same id ∙ so_far.facts id;
    count = more.count ∙ so_far.count;
  }
    where
      before : (s : ℕ) → s / 4 ≢ m / 4 → Contains marks s ⊎ Contains (m ∷ []) s → Contains marks s
      before s n (inl h) = h
      before s n (inr h) = at (contains_cases m s [] h)
        where
          at : (m ≡ s) ⊎ Contains [] s → Contains marks s
          at (inl e) = absurd (n (ap (λ (x : ℕ). x / 4) (sym e)))
          at (inr k) = absurd (contains_none s k)
