use Rattle.std.proofs.Common.{◌-◌, length}
use Rattle.pur_tree.specs.Nodes.{plain_elem}
use Rattle.pur_wellform.specs.Private.Opens.{entry_of}
use Rattle.pur_wellform.specs.Private.Machines.{state_of}
use Rattle.pur_wellform.proofs.StartFacts.{open_take, level_now, walk, did-too_deep, did-put_at, wraps_now, kept_now, low_now, too_deep, fits_there}
use Rattle.pur_wellform.proofs.steps.put_at.Goals as goal

pub level_there-requires : goal.level_there-requires
level_there-requires c =
    open_take c.args.settings.now c.args.machine.now.opened.items c.outer_of-outer.result.now (length c.args.machine.now.opened.items - c.args.found.inner)
    (rw c.deref.ensures.value at c.outer_of-outer.ensures) c.requires.machine.known

pub returns-then-not-level_fits : goal.returns-then-not-level_fits
returns-then-not-level_fits c =
    did-too_deep c.args.settings.now c.args.machine.now (plain_elem c.args.name c.args.attrs) c.args.at_once c.args.found.inner c.level_there.result (entry_of c.args.found.way) c.requires.machine
    (level_now c.args.machine.now.opened.items c.outer_of-outer.result.now c.args.name (entry_of c.args.found.way) c.args.found.inner c.level_there.result c.requires.within
    (rw c.deref.ensures.value at c.outer_of-outer.ensures) c.level_there.ensures)
    (too_deep c.level_fits.result c.level_there.result c.level_fits.ensures c.if-not-level_fits.true)

pub enter_wrapper-requires-clause-wrapper : goal.enter_wrapper-requires-clause-wrapper
enter_wrapper-requires-clause-wrapper c =
    let level = level_now c.args.machine.now.opened.items c.outer_of-outer.result.now c.args.name (entry_of c.args.found.way) c.args.found.inner c.level_there.result c.requires.within
    (rw c.deref.ensures.value at c.outer_of-outer.ensures) c.level_there.ensures in
    let way = walk c.args.settings.now c.args.name (state_of c.args.machine.now) c.args.found.inner c.level_there.result (entry_of c.args.found.way) c.requires.kept c.requires.permitted
    c.requires.place c.requires.free level (fits_there c.level_fits.result c.level_there.result c.level_fits.ensures c.if-not-level_fits.false) in
    wraps_now c.args.settings.now c.args.machine.now c.close_inner.new.machine c.args.name c.args.found.inner (entry_of c.args.found.way) way c.in_ok-close_inner.ensures

pub reopen_before-requires-clause-kept : goal.reopen_before-requires-clause-kept
reopen_before-requires-clause-kept c =
    let level = level_now c.args.machine.now.opened.items c.outer_of-outer.result.now c.args.name (entry_of c.args.found.way) c.args.found.inner c.level_there.result c.requires.within
    (rw c.deref.ensures.value at c.outer_of-outer.ensures) c.level_there.ensures in
    let way = walk c.args.settings.now c.args.name (state_of c.args.machine.now) c.args.found.inner c.level_there.result (entry_of c.args.found.way) c.requires.kept c.requires.permitted
    c.requires.place c.requires.free level (fits_there c.level_fits.result c.level_there.result c.level_fits.ensures c.if-not-level_fits.false) in
    kept_now c.args.settings.now c.args.machine.now c.close_inner.new.machine c.enter_wrapper.new.machine c.args.name c.args.found.inner (entry_of c.args.found.way) way
    c.in_ok-close_inner.ensures c.in_ok-enter_wrapper.ensures

pub enter_tag-requires-clause-low : goal.enter_tag-requires-clause-low
enter_tag-requires-clause-low c =
    let level = level_now c.args.machine.now.opened.items c.outer_of-outer.result.now c.args.name (entry_of c.args.found.way) c.args.found.inner c.level_there.result c.requires.within
    (rw c.deref.ensures.value at c.outer_of-outer.ensures) c.level_there.ensures in
    let way = walk c.args.settings.now c.args.name (state_of c.args.machine.now) c.args.found.inner c.level_there.result (entry_of c.args.found.way) c.requires.kept c.requires.permitted
    c.requires.place c.requires.free level (fits_there c.level_fits.result c.level_there.result c.level_fits.ensures c.if-not-level_fits.false) in
    low_now c.args.settings.now c.args.machine.now c.close_inner.new.machine c.enter_wrapper.new.machine c.reopen_before.new.machine c.args.name c.args.found.inner (entry_of c.args.found.way) way
    c.in_ok-close_inner.ensures c.in_ok-enter_wrapper.ensures c.in_ok-reopen_before.ensures

pub returns : goal.returns
returns c =
    did-put_at c.args.settings.now c.args.machine.now c.close_inner.new.machine c.enter_wrapper.new.machine c.reopen_before.new.machine c.enter_tag.new.machine
    (plain_elem c.args.name c.args.attrs) c.args.at_once c.args.found.inner c.level_there.result (entry_of c.args.found.way)
    (level_now c.args.machine.now.opened.items c.outer_of-outer.result.now c.args.name (entry_of c.args.found.way) c.args.found.inner c.level_there.result c.requires.within
    (rw c.deref.ensures.value at c.outer_of-outer.ensures) c.level_there.ensures)
    (fits_there c.level_fits.result c.level_there.result c.level_fits.ensures c.if-not-level_fits.false)
    c.in_ok-close_inner.ensures c.in_ok-enter_wrapper.ensures c.in_ok-reopen_before.ensures c.in_ok-enter_tag.ensures
