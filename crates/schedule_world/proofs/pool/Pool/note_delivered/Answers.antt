use Rattle.std.proofs.Common.{◌≡◌, ◌≤◌, map, length, refl, arith, sym, ap, ◌∙◌, subst}
use Rattle.std.proofs.lemmas.List.{length-set, length-map}
use Rattle.schedule_world.specs.declared.pool.Made.{Made}
use Rattle.schedule_world.specs.declared.pool.Pool.TheInside.{Inside}
use Rattle.terms.specs.Parties.{party_number}
use Rattle.schedule_world.specs.Pooled.{AreServed, numbers_without, noted}
use Rattle.schedule_world.specs.PoolView.{frame_in_pool, frames_in_pool}
use Rattle.schedule_world.proofs.Serving.{forgotten_served, nobody, noted_set, noted_none}
use Rattle.schedule_world.proofs.pool.Pool.note_delivered.Goals as goal
use Rattle.schedule_world.proofs.pool.Pool.note_delivered.Goals.{in-Some, in_default}

abbrev Keeps : Inside → Type 0
Keeps s = (s.first ≤ length s.frames.items) × AreServed (frames_in_pool s) s.first

pub invariant_of-self : goal.invariant_of-self
invariant_of-self c = elim c.match-get_mut.branch [
  | in-Some w ↦
      let item = (w.in-Some.ensures {u = tt}).item in
      let m : Made = record { bytes = w.in-Some.made.now.bytes; waiting = w.forget.new.waiting } in
      subst Keeps (sym w.self-inside-is) (
        omega (arith, length-set c.self.inside.frames.items c.args.frame m),
        forgotten_served c.self.inside.frames.items c.args.frame c.self.inside.first m w.in-Some.made.now item.3.0 item.1
            (λ e. nobody m.waiting.items (w.forget.ensures ∙ ap (λ ws. numbers_without (party_number c.args.party) (map party_number ws)) e)) c.self.invariant.1,
      )
  | in_default w ↦ subst Keeps (sym w.self-inside-is) c.self.invariant
]

pub returns : goal.returns
returns c = elim c.match-get_mut.branch [
  | in-Some w ↦
      let item = (w.in-Some.ensures {u = tt}).item in
      let m : Made = record { bytes = w.in-Some.made.now.bytes; waiting = w.forget.new.waiting } in
      ap frames_in_pool w.self-inside-is
      ∙ noted_set c.self.inside.frames.items c.args.frame (party_number c.args.party) m w.in-Some.made.now item.3.0 item.1 refl w.forget.ensures
      ∙ ap (λ fs. noted fs c.args.frame (party_number c.args.party)) c.self.view_is
  | in_default w ↦
      let none = (w.in_default.ensures {u = tt}).item.3 in
      let all : length (frames_in_pool c.self.inside) ≡ length c.self.inside.frames.items = length-map c.self.inside.frames.items frame_in_pool in
      ap frames_in_pool w.self-inside-is
      ∙ sym (noted_none (frames_in_pool c.self.inside) c.args.frame (party_number c.args.party) (omega (arith, none, all)))
      ∙ ap (λ fs. noted fs c.args.frame (party_number c.args.party)) c.self.view_is
]
