use Rattle.std.proofs.Common.{◌∙◌}
use Rattle.desk.proofs.KeptStates.{digests_answer, page_answer, page_fits}
use Rattle.desk.proofs.desk.Desk.part_message.Goals as goal

pub returns-in_ok-meta_message-in-Root : goal.returns-in_ok-meta_message-in-Root
returns-in_ok-meta_message-in-Root c = record {
  part = rw (← c.self.view_is) (
    c.in-Some.pages.now,
    c.in-Some.ensures.some,
    c.in_ok-meta_message-in-Root.ensures.says
        ∙ digests_answer c.in-Some.pages.now _ c.args.fetch.now.level _ _ _ c.in-Root.is c.from-at.ensures c.children-digests.ensures,
  );
  may = c.in_ok-meta_message-in-Root.ensures.may;
  unsigned = c.in_ok-meta_message-in-Root.ensures.unsigned;
  fits = c.in_ok-meta_message-in-Root.ensures.fits;
}

pub returns-in_ok-text-in-Page-clause-part : goal.returns-in_ok-text-in-Page-clause-part
returns-in_ok-text-in-Page-clause-part c =
    rw (← c.self.view_is) (
      c.in-Some.pages.now,
      c.in-Some.ensures.some,
      c.page_message.ensures.says
          ∙ page_answer c.in-Some.pages.now _ c.args.fetch.now.level _ _ _ c.in-Page.is c.from-at.ensures (c.in_ok-text-in-Page.ensures.items ∙ c.page.ensures.text),
    )

pub returns-in_ok-text-in-Page-clause-fits : goal.returns-in_ok-text-in-Page-clause-fits
returns-in_ok-text-in-Page-clause-fits c =
    page_fits c.in-Some.pages.now _ _ c.args.fetch.now.level _ _ _ c.in-Some.ensures.short c.page_message.ensures.says c.in-Page.is c.requires c.from-at.ensures
    (c.in_ok-text-in-Page.ensures.items ∙ c.page.ensures.text)
