-- `edit_bytes::put_edited` meets its contract. lower and higher are what was put at the cuts, of the values as they were lent.
use mathlib.Core.Path.{ap, ◌∙◌, subst}
use lib.ListN.{length}
use lib.Seq.{length-sets}
use Rattle.edit_rules.specs.Cuts.{low_of, cut_put, StoredAt}
use Rattle.edit_rules.proofs.Storing.{head_asked, first_asked, low_asked, mid_asked, high_asked, rest_asked, all_stored}
use Rattle.edit_bytes.proofs.put_edited.Goals as goal
use Rattle.edit_bytes.proofs.put_edited.Goals.{After-put_cut-at, After-put_cut-at-2}

lower : (c : After-put_cut-at)
    → let i = c.args in StoredAt c.copy_all-at.new.out c.copy_all-at.result (cut_put i.k.lo (low_of i.turned i.v.now i.w.now)) c.put_cut-at.result c.put_cut-at.new.out
lower c = subst (λ x. StoredAt c.copy_all-at.new.out c.copy_all-at.result (cut_put c.args.k.lo x) c.put_cut-at.result c.put_cut-at.new.out) c.low_of-lower.ensures c.put_cut-at.ensures

higher : (c : After-put_cut-at-2)
    → let i = c.args in StoredAt c.put_part-at.new.out c.put_part-at.result (cut_put i.k.hi (low_of i.turned i.w.now i.v.now)) c.put_cut-at-2.result c.put_cut-at-2.new.out
higher c = subst (λ x. StoredAt c.put_part-at.new.out c.put_part-at.result (cut_put c.args.k.hi x) c.put_cut-at-2.result c.put_cut-at-2.new.out) c.low_of-higher.ensures c.put_cut-at-2.ensures

pub put_head-at-requires : goal.put_head-at-requires
put_head-at-requires c = head_asked c.args.out.now c.requires

pub copy_all-at-requires : goal.copy_all-at-requires
copy_all-at-requires c = first_asked c.args.out.now c.requires c.put_head-at.ensures

pub put_cut-at-requires : goal.put_cut-at-requires
put_cut-at-requires c = rw c.low_of-lower.ensures (low_asked c.args.out.now c.requires c.put_head-at.ensures c.copy_all-at.ensures)

pub put_part-at-requires : goal.put_part-at-requires
put_part-at-requires c =
    let at = goal.at.put_part-at-requires c in
    mid_asked c.args.out.now c.requires c.put_head-at.ensures c.copy_all-at.ensures (lower at.After-put_cut-at)

pub put_cut-at-requires-2 : goal.put_cut-at-requires-2
put_cut-at-requires-2 c =
    let at = goal.at.put_cut-at-requires-2 c in
    rw c.low_of-higher.ensures (high_asked c.args.out.now c.requires c.put_head-at.ensures c.copy_all-at.ensures (lower at.After-put_cut-at) c.put_part-at.ensures)

pub put_part-requires : goal.put_part-requires
put_part-requires c =
    let at = goal.at.put_part-requires c in
    rest_asked c.args.out.now c.requires c.put_head-at.ensures c.copy_all-at.ensures (lower at.After-put_cut-at) c.put_part-at.ensures (higher at.After-put_cut-at-2)

pub returns : goal.returns
returns c =
    let at = goal.at.returns c in
    all_stored c.args.out.now c.requires c.put_head-at.ensures c.copy_all-at.ensures (lower at.After-put_cut-at) c.put_part-at.ensures (higher at.After-put_cut-at-2) c.put_part.ensures

pub shape_of-out : goal.shape_of-out
shape_of-out c = ap length (returns c).1 ∙ simp length-sets
