-- Holders of which the seats are the same.
use Rattle.std.proofs.Common.{◌≡◌, ℕ, List, get_or, ap}
use Rattle.indexmap.specs.IndexMap.{get as look_up}
use Rattle.kin_cert.specs.declared.holders.Holders.{Holders}
use Rattle.kin_cert.specs.declared.key.Key.TheVariants.{Seat, Bucket}
use Rattle.kin_cert.specs.Bucket.{is_bucket}
use Rattle.kin_cert.specs.Holders.{holder_in, holder_of, AreSame}

pub same-holders : (h h' : Holders) → h'.seats ≡ h.seats → ((q : List ℕ) → look_up is_bucket h'.index q ≡ look_up is_bucket h.index q) → AreSame (holder_of h) (holder_of h')
same-holders h h' seats index (Seat p) = ap (λ s. holder_in (get_or s.items p 0)) seats
same-holders h h' seats index (Bucket b) = index b
