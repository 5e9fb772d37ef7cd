-- `find::set_place` meets its contract. a is where the item's spot is known, and g where the set's bytes are.
use Rattle.items.specs.Meet.{form_of}
use mathlib.Core.Path.{ap, ◌∙◌}
use Rattle.find.specs.Places.{place_in}
use Rattle.find.proofs.Sets.{seal_room, set_stop}
use Rattle.find.proofs.Finds.{set_there, set_added}
use Rattle.find.proofs.set_place.Goals as goal

pub stop_of-stop-requires : goal.stop_of-stop-requires
stop_of-stop-requires c = seal_room (form_of c.args.alone) _ (λ n. (c.type_inv.s n).fits) c.requires

pub item_spot-a-requires : goal.item_spot-a-requires
item_spot-a-requires c = (c.requires.short, (form_of c.args.alone, c.requires.ran))

pub returns-then-a : goal.returns-then-a
returns-then-a c =
    set_there (form_of c.args.alone) c.args.tag c.args.s.now (c.item_spot-a.ensures (form_of c.args.alone) c.requires.ran)
    (set_stop (form_of c.args.alone) _ (λ n. (c.type_inv.s n).fits) c.requires c.stop_of-stop.ensures) c.if-a.true c.place_in.ensures

pub returns : goal.returns
returns c =
    set_added (form_of c.args.alone) c.args.tag c.args.s.now (c.item_spot-a.ensures (form_of c.args.alone) c.requires.ran)
    (set_stop (form_of c.args.alone) _ (λ n. (c.type_inv.s n).fits) c.requires c.stop_of-stop.ensures) c.if-a.false
    (c.place_in-2.ensures ∙ ap (λ x. place_in x c.stop_of-stop.result) c.no_spot.ensures)
