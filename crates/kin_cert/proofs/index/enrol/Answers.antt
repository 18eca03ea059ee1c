use Rattle.std.proofs.Common.{◌≡◌, true, false, List, ℤ, Option, cond, Some, is_some, refl, sym, ap, ◌∙◌, inl, inr}
use Rattle.std.proofs.lemmas.Option.{same_Some}
use Rattle.std.proofs.lemmas.Result.{on_ok_weaker}
use Rattle.indexmap.specs.IndexMap.{get as look_up}
use Rattle.kin_cert.specs.Entries.{Entry}
use Rattle.kin_cert.specs.declared.holder.Holder.{Holder}
use Rattle.kin_fail.specs.Rank.{is_rank}
use Rattle.kin_cert.specs.Keys.{owned_key}
use Rattle.kin_cert.specs.Holders.{holder_of}
use Rattle.kin_cert.specs.Layout.{entry_at, held}
use Rattle.kin_cert.proofs.Keys.{some_none, has-after}
use Rattle.kin_cert.proofs.index.enrol.Goals as goal

pub returns-in_default-clause-ok : goal.returns-in_default-clause-ok
returns-in_default-clause-ok c =
    let holders = holder_of c.args.holders.now in
    let key = owned_key c.args.plan.now (held c.args.structure c.args.placed.now) in
    let newcomer : Holder = record { id = c.args.id; is_shared = false } in
    let unknown = ap holders (sym c.key_of-key.ensures) ∙ sym c.find.ensures.value ∙ c.in_default.is in
    on_ok_weaker c.set.result (λ has.
    inl (
      record {
        holder = newcomer;
        id_is = refl;
        free = λ h e known. absurd (some_none h (sym known ∙ unknown));
        stays = λ h known. absurd (some_none h (sym known ∙ unknown));
        has = has-after holders (holder_of c.find.new.self) (holder_of c.set.new.self) key c.key_of-key.result newcomer c.find.ensures.same c.key_of-key.ensures has;
      },
      λ q. refl,
    )) c.set.ensures.ok

pub returns-then-not-is_held-clause-ok : goal.returns-then-not-is_held-clause-ok
returns-then-not-is_held-clause-ok c =
    let holders = holder_of c.args.holders.now in
    let key = owned_key c.args.plan.now (held c.args.structure c.args.placed.now) in
    let holder = c.in-Some.holder in
    let successor : Holder = record { id = c.args.id; is_shared = holder.is_shared } in
    let known : holders key ≡ Some holder = ap holders (sym c.key_of-key.ensures) ∙ sym c.in-Some.ensures.value in
    on_ok_weaker c.set-then-not-is_held.result (λ has.
    inl (
      record {
        holder = successor;
        id_is = refl;
        free = λ h e was there placed.
            let same : h ≡ holder = same_Some h holder (sym was ∙ known) in
            let both : false ≡ true = c.if-not-is_held.ensures.1 (e, ap (λ (x : Holder). entry_at c.args.entries.now.slots x.id) (sym same) ∙ there, placed ∙ sym c.key_of-key.ensures) in
            cc;
        stays = λ h was shared. ap (λ (x : Holder). x.is_shared) (sym (same_Some h holder (sym was ∙ known))) ∙ shared;
        has = has-after holders (holder_of c.find.new.self) (holder_of c.set-then-not-is_held.new.self) key c.key_of-key.result successor c.find.ensures.same c.key_of-key.ensures has;
      },
      λ q. refl,
    )) c.set-then-not-is_held.ensures.ok

pub returns-clause-ok : goal.returns-clause-ok
returns-clause-ok c =
    let holders = holder_of c.args.holders.now in
    let key = owned_key c.args.plan.now (held c.args.structure c.args.placed.now) in
    let holder = c.in-Some.holder in
    let at = c.if-not-is_held.ensures.0 refl in
    let shared : Holder = record { id = holder.id; is_shared = true } in
    inr (
      record {
        holder = holder;
        known = ap holders (sym c.key_of-key.ensures) ∙ sym c.in-Some.ensures.value;
        there = ap (λ (e : Option Entry). is_some e) at.1;
        has = has-after holders (holder_of c.find.new.self) (holder_of c.share.new.self) key c.key_of-key.result shared c.find.ensures.same c.key_of-key.ensures c.share.ensures;
      },
      λ q. c.in-Ok.ensures.updates.0 q ∙ ap (λ (r : List ℤ). cond (is_rank r q) (Some c.args.id) (look_up is_rank c.args.others.now q)) c.rank-rank.ensures,
    )
