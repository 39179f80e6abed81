use Rattle.world3270.proofs.laws.what_is_given.Goals as goal

pub returns : goal.returns
returns c = record {
  belief = record {
    hears = c.what_is_sent_is_heard.ensures.modified;
    reads = c.what_is_read_is_heard.ensures;
    unbroken = c.rules_are_not_broken.ensures;
    encoded = c.what_is_wanted_is_painted.ensures.encoded;
    painted = c.what_is_wanted_is_painted.ensures.painted;
    taken = c.what_is_wanted_is_painted.ensures.taken;
    known = c.what_is_wanted_is_painted.ensures.known;
    written = c.what_is_written_is_taken.ensures;
    nothing_exact = c.what_is_protected_is_exact.ensures.nothing;
    heard_exact = c.what_is_known_is_exact.ensures.heard;
    heard_protected = c.what_is_protected_is_exact.ensures.heard;
    taken_exact = c.what_is_known_is_exact.ensures.taken;
    painted_exact = c.what_is_protected_is_exact.ensures.painted;
    seen = c.what_is_exact_is_so.ensures.protected;
    told = c.what_is_exact_is_so.ensures.returned;
    cleared = c.what_leaves_nothing_open.ensures.cleared;
    long_opens = c.what_leaves_nothing_open.ensures.long;
    read_leaves = c.what_leaves_nothing_open.ensures.buffer;
    paint_opens = c.what_leaves_nothing_open.ensures.painted;
    settled = c.what_returns_input_is_settled.ensures.decided;
    returned_settles = c.what_returns_input_is_settled.ensures.returned;
    read_settles = c.what_returns_input_is_settled.ensures.read;
    paint_returns = c.what_returns_input_is_settled.ensures.painted;
    doubt_allows = c.what_is_in_doubt_is_allowed.ensures.allowed;
    doubt_input = c.what_is_in_doubt_is_allowed.ensures.input;
    doubt_exact = c.what_is_in_doubt_is_allowed.ensures.exact;
    doubt_protected = c.what_is_in_doubt_is_allowed.ensures.protected;
    fit = c.what_is_shown_fits.ensures.fits;
    sizes = c.what_is_shown_fits.ensures.sizes;
    names = c.one_reading.ensures.name;
  };
  keys = record {
    keep = c.keys_keep_what_was_left.ensures.keep;
    on_screen = c.keys_keep_what_was_left.ensures.on_screen;
    sendable = c.what_keys_leave_can_be_sent.ensures;
    at_first = c.kept_since_the_write.ensures.at_first;
    round = c.kept_since_the_write.ensures.round;
    composes = c.kept_since_the_write.ensures.composes;
  };
  notes = record {
    bounds = c.what_a_note_keeps.ensures.bounds;
    form = c.what_a_note_keeps.ensures.form;
    held = c.what_a_note_keeps.ensures.held;
    still_protected = c.what_a_note_keeps.ensures.still_protected;
    note_sendable = c.what_a_note_keeps.ensures.sendable;
    composes = c.what_a_note_keeps.ensures.composes;
    placed = c.what_a_note_leaves.ensures.known;
    listed = c.what_a_note_leaves.ensures.listed;
    stays_told = c.what_a_note_leaves.ensures.told;
    exact = c.what_a_note_leaves.ensures.exact;
    opens = c.what_a_note_leaves.ensures.unopened;
    returns = c.what_returns_input_is_settled.ensures.noted;
    stays_settled = c.what_returns_input_is_settled.ensures.kept;
    are_notes = c.notes_are_written.ensures.notes;
    overwrites = c.notes_are_written.ensures.overwrites;
    over_characters = c.notes_are_written.ensures.over_characters;
    writes_protected = c.notes_are_written.ensures.protected;
    painted_takes = c.notes_are_written.ensures.painted;
    held_takes = c.notes_are_written.ensures.held;
    same_takes = c.notes_are_written.ensures.same_attributes;
  };
  pool = record {
    sound = c.the_pool_is_a_map.ensures.sound;
    sound_free = c.the_pool_is_a_map.ensures.sound_free;
    sound_granted = c.the_pool_is_a_map.ensures.sound_granted;
    sound_back = c.the_pool_is_a_map.ensures.sound_back;
    nobody = c.the_pool_is_a_map.ensures.nobody;
    free = c.the_pool_is_a_map.ensures.free;
    lus = c.the_pool_is_a_map.ensures.names;
    asked = c.the_pool_is_a_map.ensures.asked;
    held = c.the_pool_is_a_map.ensures.held;
    others_stay = c.the_pool_is_a_map.ensures.others_stay;
    others_keep = c.the_pool_is_a_map.ensures.others_keep;
    back = c.the_pool_is_a_map.ensures.back;
  };
}
