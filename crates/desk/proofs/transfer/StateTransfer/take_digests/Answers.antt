use Rattle.std.proofs.Common.{◌≡◌, ◌≢◌, IsTrue, List, ℕ, Result, Ok, Err, Some, IfErr, OnErr, OnOk, sym, ap, ◌∙◌, subst}
use Rattle.std.specs.Prelude.{is_ok}
use Rattle.terms.specs.declared.state.Level.{Level}
use Rattle.terms.specs.declared.state.Level.TheVariants as levels
use Rattle.wire_format.specs.Spelling.{has_children}
use Rattle.wire_format.specs.declared.messages.Meta.{Meta}
use Rattle.partition_tree.specs.Digests.{digest_of_children}
use Rattle.state_transfer.specs.declared.part_fault.PartFault.{PartFault}
use Rattle.state_transfer.specs.declared.part_fault.PartFault.TheVariants as faults
use Rattle.state_transfer.specs.declared.place.Place.{Place}
use Rattle.state_transfer.specs.Taking.{DigestIsKnown, IsMetaAsked, RefusesMeta}
use Rattle.state_transfer.specs.Transfer.{TransferData, wanted, with_digests}
use Rattle.desk.specs.StateTransferView.{open_data}
use Rattle.desk.specs.State.{OpenData}
use Rattle.desk.specs.Transferring.{MayBeSent, TakesDigestsOf}
use Rattle.desk.proofs.transfer.StateTransfer.take_digests.Goals as goal

no_page : (level : Level) → IsTrue (has_children level) → level ≢ levels.Page
no_page levels.Root has same = absurd cc
no_page _ has same = absurd cc

abbrev place_of : Meta → Place
place_of meta = record { level = meta.level; index = meta.index }

takes : (o : OpenData) (t : TransferData) (meta : Meta) (digests : List (List ℕ)) (r : Result (Unit {0}) PartFault) → MayBeSent meta → digests ≡ meta.digests.items → DigestIsKnown o.transfer
    → OnOk r (IsMetaAsked o.transfer meta.number.0 (place_of meta)) → OnOk r (wanted o.transfer (place_of meta) ≡ Some (digest_of_children digests)) → OnOk r (t ≡ with_digests o.transfer (place_of meta) digests)
    → IfErr r (RefusesMeta o.transfer meta.number.0 (place_of meta) digests) → OnErr r (t ≡ o.transfer) → TakesDigestsOf o meta (record o { transfer = t }) (is_ok r)
takes o t meta digests (Ok x) may same known asked fits ok fault err = (
  sym asked.0.of_state,
  asked.0.at_place,
  ap (wanted o.transfer) asked.0.at_place ∙ fits ∙ ap (λ (ds : List (List ℕ)). Some (digest_of_children ds)) same,
  ap (λ (n : TransferData). let new : OpenData = record o { transfer = n } in new) (ok ∙ ap (with_digests o.transfer (place_of meta)) same ∙ ap (λ (p : Place). with_digests o.transfer p meta.digests.items) (sym asked.0.at_place)),
)
takes o t meta digests (Err faults.NotAsked) may same known asked fits ok fault err = (
  ap (λ (n : TransferData). let new : OpenData = record o { transfer = n } in new) err,
  (known.0, known.1, λ number place digest. fault (record { of_state = number; at_place = place }, no_page meta.level may.1)),
)
takes o t meta digests (Err faults.WrongDigest) may same known asked fits ok fault err = (
  ap (λ (n : TransferData). let new : OpenData = record o { transfer = n } in new) err,
  (known.0, known.1, λ number place digest. fault.1 (ap (wanted o.transfer) (sym place) ∙ known.1 ∙ ap Some (digest ∙ ap digest_of_children (sym same)))),
)
takes o t meta digests (Err faults.NoMemory) may same known asked fits ok fault err = absurd fault

pub returns : goal.returns
returns c =
    let o : OpenData = open_data c.self.inside in
    let lent = c.deref_mut.ensures.value in
    rw (← c.self.view_is, c.is_ok.ensures.value)
    (subst (λ (t : TransferData). TakesDigestsOf (record o { transfer = t }) c.args.meta.now (record o { transfer = c.on_meta.new.self }) (is_ok c.on_meta.result)) lent
    (takes (record o { transfer = c.deref_mut.result.now }) c.on_meta.new.self c.args.meta.now c.in-Ok.digests.now c.on_meta.result c.requires (c.in-Ok.ensures.1.same ∙ c.as_slice.ensures.value)
    (subst DigestIsKnown (c.deref.ensures ∙ sym lent) c.keeps.ensures.wanted)
    c.on_meta.ensures.asked c.on_meta.ensures.fits c.on_meta.ensures.ok c.on_meta.ensures.fault c.on_meta.ensures.err))
