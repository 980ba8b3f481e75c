-- The state of a client after each entry.
use Rattle.std.proofs.Common.{◌≡◌, ℕ, Bool, true, false, cond, ◌&&◌, ◌||◌, ◌==◌, List, [], ◌∷◌, Option, Some, None, refl, sym, ap, ◌∙◌}
use Rattle.std.specs.Prelude.{option_map, option_and_then}
use Rattle.std.specs.Bool.{then_some}
use Rattle.std.specs.Option.{option_map_or}
use Rattle.std.proofs.lemmas.Bool.{eq-eqb}
use Rattle.tuple_codec.specs.Operations.{Operation, Outcome}
use Rattle.terms.specs.declared.order.Mode.{Mode}
use Rattle.terms.specs.declared.order.Mode.TheVariants as modes
use Rattle.wire_format.specs.Messages.{request as Request, reply as Reply}
use Rattle.wire_format.specs.Words.{said}
use Rattle.signing.specs.AuthenticBody.{authentic}
use Rattle.protocol.specs.System.Configuration.{Configuration, members}
use Rattle.protocol.specs.System.Frames.{same_mode}
use Rattle.protocol.specs.System.Trace.{Entry}
use Rattle.protocol.specs.System.Trace.Entry.{Invoke, Got, Tick, Sent, Accepted}
use Rattle.protocol.specs.Client.RightClient.{Vote, reply_vote, later_vote, latest, went_ordered, is_ordered_request_of}
use Rattle.client_cert.specs.State.{CallState, TakesReply, ballot_of, ballots_of, held, went}
use Rattle.client_cert.specs.Fits.{FitsWithinEvents}

-- ---- entries

first_ballots : (c : Configuration) (me k t : ℕ) (op : Operation) (history : List Entry) (mode : Mode) (s : ℕ)
    → held (ballots_of mode (record { op = op; ordered = false; ordered_ballots = []; read_ballots = [] })) s ≡ option_map ballot_of (latest c me (Invoke k t op ∷ history) t mode s)
unfolding latest
first_ballots c me k t op history modes.Ordered s = refl
first_ballots c me k t op history modes.ReadOnly s = refl

pub holds_invoked : (c : Configuration) (me start k t : ℕ) (op : Operation) (history : List Entry)
    → FitsWithinEvents c me start (Invoke k t op ∷ history) t (Some (record { op = op; ordered = false; ordered_ballots = []; read_ballots = [] }))
holds_invoked c me start k t op history =
    record { last_is = refl; call_is = record { open_is = refl; ordered_is = refl; ballots_are = first_ballots c me k t op history } }

pub holds_tick : (c : Configuration) {start : ℕ} (me p t : ℕ) (history : List Entry) (call : Option CallState) → FitsWithinEvents c me start history t call → FitsWithinEvents c me start (Tick p ∷ history) t call
unfolding latest
holds_tick c me p t history None h = record { last_is = h.last_is; call_is = h.call_is }
holds_tick c me p t history (Some call) h =
    record { last_is = h.last_is; call_is = record { open_is = h.call_is.open_is; ordered_is = h.call_is.ordered_is; ballots_are = h.call_is.ballots_are } }

pub holds_closed : (c : Configuration) {start : ℕ} (me p t : ℕ) (bytes : List ℕ) (history : List Entry) → FitsWithinEvents c me start history t None → FitsWithinEvents c me start (Got p bytes ∷ history) t None
holds_closed c me p t bytes history h = record { last_is = h.last_is; call_is = h.call_is }

pub holds_got : (c : Configuration) {start : ℕ} (me p t : ℕ) (bytes : List ℕ) (history : List Entry) (call : CallState)
    → ((s : ℕ) → option_and_then (reply_vote me t s) (authentic (members c me) me bytes) ≡ None) → FitsWithinEvents c me start history t (Some call) → FitsWithinEvents c me start (Got p bytes ∷ history) t (Some call)
unfolding latest
holds_got c me p t bytes history call none h =
    record {
      last_is = h.last_is;
      call_is = record {
        open_is = h.call_is.open_is;
        ordered_is = h.call_is.ordered_is;
        ballots_are = λ mode s.
            h.call_is.ballots_are mode s
            ∙ ap (option_map ballot_of) (sym (ap (λ v. later_vote mode v (latest c me history t mode s)) (none s)));
      };
    }

-- a reply of a mode, and then of another one
later : (test : Bool) (mode m : Mode) (number : ℕ) (answer : Outcome) (earlier : Option Vote)
    → option_map ballot_of (later_vote m (then_some test (record { mode = mode; number = number; answer = answer })) earlier)
    ≡ cond (same_mode mode m && test) (Some (ballot_of (record { mode = mode; number = number; answer = answer }))) (option_map ballot_of earlier)
later false modes.Ordered modes.Ordered number answer earlier = refl
later false modes.Ordered modes.ReadOnly number answer earlier = refl
later false modes.ReadOnly modes.Ordered number answer earlier = refl
later false modes.ReadOnly modes.ReadOnly number answer earlier = refl
later true modes.Ordered modes.Ordered number answer earlier = refl
later true modes.Ordered modes.ReadOnly number answer earlier = refl
later true modes.ReadOnly modes.Ordered number answer earlier = refl
later true modes.ReadOnly modes.ReadOnly number answer earlier = refl

and_trues : (a b c : Bool) → b ≡ true → c ≡ true → (a && b) && c ≡ a
and_trues true b c p q = ap (λ x. x && c) p ∙ q
and_trues false b c p q = refl

pub vote_heard : (me t s sender : ℕ) (mode : Mode) (number : ℕ) (answer : Outcome)
    → reply_vote me t s (record { sender = sender; message = Reply me t mode number answer })
    ≡ then_some (sender == s) (record { mode = mode; number = number; answer = answer })
vote_heard me t s sender mode number answer =
    ap (λ b. then_some b (let v : Vote = record { mode = mode; number = number; answer = answer } in v)) (and_trues (sender == s) (me == me) (t == t) (eq-eqb me me refl) (eq-eqb t t refl))

pub holds_noted : (c : Configuration) {start : ℕ} (me p t : ℕ) (bytes : List ℕ) (history : List Entry) (call more : CallState)
    (sender : ℕ) (mode : Mode) (number : ℕ) (answer : Outcome)
    → authentic (members c me) me bytes ≡ Some (record { sender = sender; message = Reply me t mode number answer })
    → TakesReply call mode sender (ballot_of (record { mode = mode; number = number; answer = answer })) more
    → FitsWithinEvents c me start history t (Some call) → FitsWithinEvents c me start (Got p bytes ∷ history) t (Some more)
unfolding latest
holds_noted c me p t bytes history call more sender mode number answer is takes h =
    record {
      last_is = h.last_is;
      call_is = record {
        open_is = h.call_is.open_is ∙ ap (λ op. Some (record { timestamp = t; op = op })) (sym takes.op);
        ordered_is = h.call_is.ordered_is ∙ sym takes.ordered;
        ballots_are = λ m s.
            takes.at m s
            ∙ ap (cond (same_mode mode m && (sender == s)) (Some (ballot_of (record { mode = mode; number = number; answer = answer })))) (h.call_is.ballots_are m s)
            ∙ sym (later (sender == s) mode m number answer (latest c me history t m s))
            ∙ ap (λ v. option_map ballot_of (later_vote m v (latest c me history t m s))) (sym (ap (option_and_then (reply_vote me t s)) is ∙ vote_heard me t s sender mode number answer));
      };
    }

sent_ballots : (call : CallState) (m mode : Mode) (s : ℕ) → held (ballots_of mode (went m call)) s ≡ held (ballots_of mode call) s
sent_ballots call m modes.Ordered s = refl
sent_ballots call m modes.ReadOnly s = refl

pub holds_sent : (c : Configuration) {start : ℕ} (me p t : ℕ) (bytes : List ℕ) (history : List Entry) (mode : Mode) (op : Operation) (call : CallState)
    → said bytes ≡ Some (record { sender = me; message = Request t mode op })
    → FitsWithinEvents c me start history t (Some call) → FitsWithinEvents c me start (Sent p bytes ∷ history) t (Some (went mode call))
unfolding latest
holds_sent c me p t bytes history mode op call says h =
    record {
      last_is = h.last_is;
      call_is = record {
        open_is = h.call_is.open_is;
        ordered_is =
            ap (λ b. option_map_or (is_ordered_request_of t) b false || went_ordered history t) says
            ∙ ap (λ b. ((t == t) && same_mode mode modes.Ordered) || b) h.call_is.ordered_is
            ∙ ap (λ b. (b && same_mode mode modes.Ordered) || call.ordered) (eq-eqb t t refl);
        ballots_are = λ m s. sent_ballots call mode m s ∙ h.call_is.ballots_are m s;
      };
    }

pub holds_accepted : (c : Configuration) {start : ℕ} (me k t : ℕ) (answer : Outcome) (history : List Entry) (call : Option CallState) → FitsWithinEvents c me start history t call → FitsWithinEvents c me start (Accepted k t answer ∷ history) t None
holds_accepted c me k t answer history call h = record { last_is = h.last_is; call_is = refl }
