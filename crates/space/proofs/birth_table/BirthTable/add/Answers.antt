use Rattle.std.proofs.Common.{◌<◌, sym, subst, arith}
use Rattle.space.specs.Ages.{ListedBirths}
use Rattle.space.proofs.Numbered.{room_within, read, births_added}
use Rattle.space.proofs.birth_table.BirthTable.add.Goals as goal

pub index_mut-requires : goal.index_mut-requires
index_mut-requires c = let within = room_within c.args.self.now.lists.items c.args.number c.requires in omega arith

pub push-requires : goal.push-requires
push-requires c =
    let ls = c.args.self.now.lists.items in
    let was = c.index_mut.result.now in
    subst (λ (x : ListedBirths). 0 < x.room) (sym (read ls c.args.number was was (room_within ls c.args.number c.requires) c.index_mut.ensures.value)) c.requires

pub returns : goal.returns
returns c =
    let ls = c.args.self.now.lists.items in
    births_added ls c.args.number c.index_mut.result.now c.push.new.self (room_within ls c.args.number c.requires) c.index_mut.ensures.value c.args.birth c.push.ensures
