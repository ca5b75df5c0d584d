use Prim.Native.Nat.{◌-◌}
use lib.ListN.{length}
use Rattle.reading.specs.Back.{bytes_of_all}
use Rattle.key_order.specs.Order.{ordered_after, ordered}
use Rattle.listing.specs.Text.{key_line}
use Rattle.text_out.proofs.Writing.{Writing}
use Rattle.listing.proofs.put_keys.Given as goal

abbrev pub invariant-loop : goal.invariant-loop
invariant-loop l =
    Writing (bytes_of_all (key_line l.s) (ordered l.s l.entries)) (bytes_of_all (key_line l.s) (ordered_after l.s l.entries (length l.entries - l.counter) l.last)) l.initial.out l.out l.n
