use Rattle.std.proofs.Common.{◌∷◌, [], ◌++◌, ◌∙◌, sym, ap, reverse, arith}
use Rattle.parse_leaves.proofs.AttributeSteps.{balanced_fails, balanced_ends, balanced_over, top_of, none_of, goes_on_opens, goes_on_neither, goes_on_closes}
use Rattle.parse_leaves.proofs.attributes.balanced.Goals as goal
use Rattle.parse_leaves.proofs.attributes.balanced.Goals.{in-Opens+in_ok-push-in-Opens, in-Closes+in-Some-pop, in-Neither}

pub returns-in-Some-2 : goal.returns-in-Some-2
returns-in-Some-2 c _ =
    let next = c.in-Some.ensures.next in
    let top = top_of c.loop-terminal.waiting.items c.pop.new.self.items c.in-Some-pop.open c.in-Some-pop.ensures.items in
    c.loop-terminal.invariant
    ∙ balanced_fails c.loop-terminal.all (reverse c.loop-terminal.waiting.items) c.in-Some.terminal next.0 c.loop-terminal.tokens
    next.1 next.2
    c.in-Some-pop.open c.in-Closes.kind _ top (sym c.in-Closes.ensures) (sym c.if-same_brackets.ensures)

pub returns-in-None : goal.returns-in-None
returns-in-None c =
    let next = c.in-Some.ensures.next in
    c.loop-terminal.invariant
    ∙ balanced_ends c.loop-terminal.all (reverse c.loop-terminal.waiting.items) c.in-Some.terminal next.0 c.loop-terminal.tokens
    next.1 next.2
    c.in-Closes.kind (none_of c.loop-terminal.waiting.items (omega (arith, c.in-None.ensures.cases, c.loop-terminal.waiting.ok)))
    (sym c.in-Closes.ensures)

pub returns : goal.returns
returns c _ =
    c.loop-terminal.invariant ∙ balanced_over c.loop-terminal.all
    (reverse c.loop-terminal.waiting.items) c.loop-terminal.tokens c.in_default.ensures.next

pub loop-terminal-preserved-in_ok-push : goal.loop-terminal-preserved-in_ok-push
loop-terminal-preserved-in_ok-push c =
    let seen = c.in-Some.ensures.next in
    let taken = c.in-Some-next.ensures.next in
    let copied = c.in_ok-copied.ensures in
    let grown = c.in_ok-push.ensures.ok in
    elim c.match-side_of.branch [
      | in-Opens+in_ok-push-in-Opens w ↦
          (c.loop-terminal.invariant
          ∙ goes_on_opens c.loop-terminal.all c.push-in-Some-next.new.self c.loop-terminal.waiting.items c.match-side_of.waiting.items
          c.in-Some.terminal _ seen.0
          c.in-Some-next.token.now c.in_ok-copied.field-0 c.loop-terminal.tokens seen.1 c.next.new.self seen.2 taken copied grown
          w.in-Opens.kind (sym w.in-Opens.ensures)
          (ap (λ v. v.items) w.waiting-is ∙ w.in_ok-push-in-Opens.ensures.items))
      | in-Closes+in-Some-pop w ↦
          (c.loop-terminal.invariant
          ∙ goes_on_closes c.loop-terminal.all c.push-in-Some-next.new.self c.loop-terminal.waiting.items c.match-side_of.waiting.items
          c.in-Some.terminal _ seen.0
          c.in-Some-next.token.now c.in_ok-copied.field-0 c.loop-terminal.tokens seen.1 c.next.new.self seen.2 taken copied grown
          w.in-Some-pop.open w.in-Closes.kind
          (sym w.in-Closes.ensures) (w.in-Some-pop.ensures.items ∙ ap (λ v. v.items ++ w.in-Some-pop.open ∷ []) (sym w.waiting-is))
          (sym w.if-same_brackets.ensures))
      | in-Neither w ↦
          (c.loop-terminal.invariant
          ∙ goes_on_neither c.loop-terminal.all c.push-in-Some-next.new.self c.loop-terminal.waiting.items c.match-side_of.waiting.items
          c.in-Some.terminal _ seen.0
          c.in-Some-next.token.now c.in_ok-copied.field-0 c.loop-terminal.tokens seen.1 c.next.new.self seen.2 taken copied grown
          (sym w.in-Neither.ensures)
          (ap (λ v. v.items) w.waiting-is))
    ]
