use Rattle.kin_part_cases.proofs.LinkStates.{five_alone, fifth_long, five_first, six_second, five_has_next, sixth_long, five_second, six_alone, nine_alone, seventh_long}
use Rattle.kin_part_cases.proofs.links.a_call_changes_one_list.Goals as goal

pub link_after-requires : goal.link_after-requires
link_after-requires g c =
    five_alone c.new-links.result c.new_list.new.self c.new_list-2.new.self c.push_front.new.self c.push_front-2.new.self c.push_front-2.new.self c.in_ok-other.other.0 c.in_ok-list.list.0 c.in_ok-nine.nine.0 c.in_ok-five.five.0 0
    c.new-links.ensures c.in_ok-other.ensures.ok.0 c.in_ok-other.ensures.ok.1 c.in_ok-list.ensures.ok.0 c.in_ok-list.ensures.ok.1 c.in_ok-nine.ensures.ok c.in_ok-five.ensures.ok

pub first-requires : goal.first-requires
first-requires g c =
    fifth_long c.new-links.result c.new_list.new.self c.new_list-2.new.self c.push_front.new.self c.push_front-2.new.self c.link_after.new.self c.in_ok-other.other.0 c.in_ok-list.list.0 c.in_ok-nine.nine.0 c.in_ok-five.five.0 c.in_ok-six.six.0
    c.new-links.ensures c.in_ok-other.ensures.ok.0 c.in_ok-other.ensures.ok.1 c.in_ok-list.ensures.ok.0 c.in_ok-list.ensures.ok.1 c.in_ok-nine.ensures.ok c.in_ok-five.ensures.ok c.in_ok-six.ensures.ok

pub next-requires : goal.next-requires
next-requires g c =
    five_first c.new-links.result c.new_list.new.self c.new_list-2.new.self c.push_front.new.self c.push_front-2.new.self c.link_after.new.self c.in_ok-other.other.0 c.in_ok-list.list.0 c.in_ok-nine.nine.0 c.in_ok-five.five.0 c.in_ok-six.six.0
    c.new-links.ensures c.in_ok-other.ensures.ok.0 c.in_ok-other.ensures.ok.1 c.in_ok-list.ensures.ok.0 c.in_ok-list.ensures.ok.1 c.in_ok-nine.ensures.ok c.in_ok-five.ensures.ok c.in_ok-six.ensures.ok

pub item-requires : goal.item-requires
item-requires g c =
    six_second c.new-links.result c.new_list.new.self c.new_list-2.new.self c.push_front.new.self c.push_front-2.new.self c.link_after.new.self c.in_ok-other.other.0 c.in_ok-list.list.0 c.in_ok-nine.nine.0 c.in_ok-five.five.0 c.in_ok-six.six.0
    c.new-links.ensures c.in_ok-other.ensures.ok.0 c.in_ok-other.ensures.ok.1 c.in_ok-list.ensures.ok.0 c.in_ok-list.ensures.ok.1 c.in_ok-nine.ensures.ok c.in_ok-five.ensures.ok c.in_ok-six.ensures.ok

pub swap_next-requires : goal.swap_next-requires
swap_next-requires g c =
    five_has_next c.new-links.result c.new_list.new.self c.new_list-2.new.self c.push_front.new.self c.push_front-2.new.self c.link_after.new.self c.in_ok-other.other.0 c.in_ok-list.list.0 c.in_ok-nine.nine.0 c.in_ok-five.five.0 c.in_ok-six.six.0
    c.new-links.ensures c.in_ok-other.ensures.ok.0 c.in_ok-other.ensures.ok.1 c.in_ok-list.ensures.ok.0 c.in_ok-list.ensures.ok.1 c.in_ok-nine.ensures.ok c.in_ok-five.ensures.ok c.in_ok-six.ensures.ok

pub first-requires-2 : goal.first-requires-2
first-requires-2 g c =
    sixth_long c.new-links.result c.new_list.new.self c.new_list-2.new.self c.push_front.new.self c.push_front-2.new.self c.link_after.new.self c.in_ok-other.other.0 c.in_ok-list.list.0 c.in_ok-nine.nine.0 c.in_ok-five.five.0 c.in_ok-six.six.0
    c.new-links.ensures c.in_ok-other.ensures.ok.0 c.in_ok-other.ensures.ok.1 c.in_ok-list.ensures.ok.0 c.in_ok-list.ensures.ok.1 c.in_ok-nine.ensures.ok c.in_ok-five.ensures.ok c.in_ok-six.ensures.ok c.swap_next.new.self c.swap_next.new.self c.swap_next.ensures

pub prev-requires : goal.prev-requires
prev-requires g c =
    five_second c.new-links.result c.new_list.new.self c.new_list-2.new.self c.push_front.new.self c.push_front-2.new.self c.link_after.new.self c.in_ok-other.other.0 c.in_ok-list.list.0 c.in_ok-nine.nine.0 c.in_ok-five.five.0 c.in_ok-six.six.0
    c.new-links.ensures c.in_ok-other.ensures.ok.0 c.in_ok-other.ensures.ok.1 c.in_ok-list.ensures.ok.0 c.in_ok-list.ensures.ok.1 c.in_ok-nine.ensures.ok c.in_ok-five.ensures.ok c.in_ok-six.ensures.ok c.swap_next.new.self c.swap_next.new.self c.swap_next.ensures

pub unlink-requires : goal.unlink-requires
unlink-requires g c =
    five_second c.new-links.result c.new_list.new.self c.new_list-2.new.self c.push_front.new.self c.push_front-2.new.self c.link_after.new.self c.in_ok-other.other.0 c.in_ok-list.list.0 c.in_ok-nine.nine.0 c.in_ok-five.five.0 c.in_ok-six.six.0
    c.new-links.ensures c.in_ok-other.ensures.ok.0 c.in_ok-other.ensures.ok.1 c.in_ok-list.ensures.ok.0 c.in_ok-list.ensures.ok.1 c.in_ok-nine.ensures.ok c.in_ok-five.ensures.ok c.in_ok-six.ensures.ok c.swap_next.new.self c.swap_next.new.self c.swap_next.ensures

pub next-requires-2 : goal.next-requires-2
next-requires-2 g c =
    six_alone c.new-links.result c.new_list.new.self c.new_list-2.new.self c.push_front.new.self c.push_front-2.new.self c.link_after.new.self c.in_ok-other.other.0 c.in_ok-list.list.0 c.in_ok-nine.nine.0 c.in_ok-five.five.0 c.in_ok-six.six.0
    c.new-links.ensures c.in_ok-other.ensures.ok.0 c.in_ok-other.ensures.ok.1 c.in_ok-list.ensures.ok.0 c.in_ok-list.ensures.ok.1 c.in_ok-nine.ensures.ok c.in_ok-five.ensures.ok c.in_ok-six.ensures.ok c.swap_next.new.self c.unlink.new.self c.swap_next.ensures (λ s. (c.unlink.ensures.unlinked s).1)

pub first-requires-3 : goal.first-requires-3
first-requires-3 g c =
    seventh_long c.new-links.result c.new_list.new.self c.new_list-2.new.self c.push_front.new.self c.push_front-2.new.self c.link_after.new.self c.in_ok-other.other.0 c.in_ok-list.list.0 c.in_ok-nine.nine.0 c.in_ok-five.five.0 c.in_ok-six.six.0
    c.new-links.ensures c.in_ok-other.ensures.ok.0 c.in_ok-other.ensures.ok.1 c.in_ok-list.ensures.ok.0 c.in_ok-list.ensures.ok.1 c.in_ok-nine.ensures.ok c.in_ok-five.ensures.ok c.in_ok-six.ensures.ok c.swap_next.new.self c.unlink.new.self c.swap_next.ensures (λ s. (c.unlink.ensures.unlinked s).1)

pub item-requires-2 : goal.item-requires-2
item-requires-2 g c =
    nine_alone c.new-links.result c.new_list.new.self c.new_list-2.new.self c.push_front.new.self c.push_front-2.new.self c.link_after.new.self c.in_ok-other.other.0 c.in_ok-list.list.0 c.in_ok-nine.nine.0 c.in_ok-five.five.0 c.in_ok-six.six.0
    c.new-links.ensures c.in_ok-other.ensures.ok.0 c.in_ok-other.ensures.ok.1 c.in_ok-list.ensures.ok.0 c.in_ok-list.ensures.ok.1 c.in_ok-nine.ensures.ok c.in_ok-five.ensures.ok c.in_ok-six.ensures.ok c.swap_next.new.self c.unlink.new.self c.swap_next.ensures (λ s. (c.unlink.ensures.unlinked s).1)
