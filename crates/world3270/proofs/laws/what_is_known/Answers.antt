use Rattle.world3270.specs.refinement.MessageLaws.{LinkLaws, WorldLaws}
use Rattle.world3270.proofs.laws.what_is_known.Goals as goal

pub returns : goal.returns
returns c =
    let stands = c.bytes_stand_for_messages.ensures in
    let wire = c.one_reading.ensures in
    let messages = c.one_reading-2.ensures in
    let worlds : WorldLaws = record {
      given = c.what_is_given.ensures;
      application = c.panels_are_shown.ensures.application;
      screens = c.panels_are_shown.ensures.screens;
      headline = c.the_headline_holds.ensures.headline;
      nobody_refuses = c.nobody_refuses.ensures;
      agree = c.the_ends_agree.ensures.agree;
      up_held = c.the_ends_agree.ensures.up;
      forms = c.what_comes_is_awaited.ensures;
      numbers = c.numbers_have_15_bits.ensures;
      may = stands.coming;
      sendable = c.screens_can_be_sent.ensures.screens;
      paints = c.screens_can_be_sent.ensures.paints;
      encoded = c.screens_can_be_sent.ensures.encoded;
    } in
    let links : LinkLaws = record {
      begin = stands.begin;
      press = stands.press;
      down = stands.down;
      not_refused = stands.not_refused;
      sends = stands.host_sends;
      nop = stands.nop_sent;
      up = stands.up;
      loss = stands.loss;
      host_leaves = stands.host_leaves;
      term_leaves = stands.term_leaves;
      paint = stands.paint;
      bounded = c.what_is_wanted_is_painted.ensures.bounded;
      wrong_is_final = wire.wrong_is_final;
      one_delivery = wire.delivery;
      no_bytes = wire.no_bytes;
      start = wire.start;
      deliveries = wire.deliveries;
      delivery_goes_on = wire.delivery_goes_on;
      one_header = messages.header;
      fault_or_header = messages.header_or_fault;
      one_inbound = c.one_reading-3.ensures.inbound;
    } in
    record { worlds = worlds; links = links }
