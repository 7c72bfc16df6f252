-- What a stable sort by stamp makes of all events.
use Rattle.std.specs.Prelude.{◌≡◌, ℕ, ◌+◌, Bool, true, false, not, ◌&&◌, List, [], ◌∷◌, map, filter, refl, All, slice_get}
use Rattle.std.specs.List.{AllByRecursion, slice_index_or}
use Rattle.std.specs.List.Sorted.{IsSortedByKey, IsStableByKey}
use Rattle.std.specs.Ordering.{nat_cmp, ordering_then, ordering_reverse, is_lt}
use Rattle.std.specs.Cmp.{IsTotalOrder, IsStrictWeakOrder}
use Rattle.std.specs.declared.cmp.Ordering.{Ordering}
use Rattle.std.specs.declared.cmp.Ordering.TheVariants.{Less, Equal, Greater}
use Rattle.std.proofs.Common.{zero, suc, sym, ap, ◌∙◌, subst}
use Rattle.std.proofs.lemmas.Cmp.{then_total, on_total, nat_cmp_total}
use Rattle.std.proofs.lemmas.List.Sorted.{ranks_by, ties_stay_sorted}
use Rattle.std.proofs.lemmas.List.Elements.{All-head, All-tail}
use Rattle.sq_base.specs.StampValue.{StampValue}
use Rattle.sq_base.specs.Stamps.{Below, start, stamp_cmp}
use Rattle.sq_base.specs.declared.ids.HomeId.{HomeId}
use Rattle.sq_base.proofs.StampLaws.{stamps_total, below_not_less}
use Rattle.sq_model.specs.declared.event.Event.{Event}
use Rattle.sq_model.specs.declared.place.Component.TheVariants as part
use Rattle.sq_model.specs.Homes.{Unopened}
use Rattle.sq_model.specs.Replays.{HomeEvent}
use Rattle.sq_model.specs.Ledgers.{is_own}
use Rattle.sq_model.specs.Matches.{IsPaired}
use Rattle.sq_model.specs.Systems.{Tag, OfDirectory, OfLedger, OfHome, stamp_of, AreOfHome, HomeGoes, IsRun}
use Rattle.sq_model.specs.Merges.{of_directory, of_home, history_at, rank_of, tag_cmp, is_before, InOrder, IsMerged}
use Rattle.sq_laws.proofs.RunLaws.{merged_run}
use Rattle.sq_history.specs.HistoryValue.{HistoryValue}
use Rattle.sq_history.specs.Histories.{IsKept}
use Rattle.sq_ledger.specs.LedgerHistory.{LedgerHistory}
use Rattle.sq_ledger.specs.LedgerHistories.{IsLedgerKept}
use Rattle.sq_directory.specs.DirectoryHistory.{DirectoryHistory}
use Rattle.sq_directory.specs.DirectoryHistories.{IsDirectoryKept}
use Rattle.sq_audit.specs.SystemNow.{system_now, events_of, opening_now, by_part, own_events}
use Rattle.sq_audit.specs.Actors.{PartsRise}
use Rattle.sq_history.specs.HomeIds.{IsNumbered}
use Rattle.sq_audit.specs.HomeHistories.{histories_of}
use Rattle.sq_audit.proofs.OrderLaws.{order_under, order_over, sorted_from, order_from, part_stays}
use Rattle.sq_audit.proofs.RisingLaws.{Increasing, increases, increases_still}
use Rattle.sq_audit.proofs.SharedLaws.{ledger_alone, ledger_is, run_parts_rise}
use Rattle.sq_steps.proofs.FilterLaws.{filter_under}
use Rattle.sq_audit.proofs.PartLaws.{is_directory, is_ledger, is_home, of_own, directory_part, own_part, home_part, directory_alone, own_alone, home_alone, directory_of_all, own_of_all, home_of_all, rank_less, all_ranked}

abbrev stamp_less : StampValue → StampValue → Bool
stamp_less a b = is_lt (stamp_cmp a b)

abbrev tag_less : Tag → Tag → Bool
tag_less t u = stamp_less (stamp_of t) (stamp_of u)

tags_total : IsTotalOrder tag_cmp
tags_total = then_total (on_total stamp_of stamps_total) (on_total rank_of nat_cmp_total)

stamps_weak : IsStrictWeakOrder stamp_less
stamps_weak = ranks_by stamps_total (λ s. s)

-- what is not less by stamp, and at equal stamps not less by rank
by_rank : (o r : Ordering) → is_lt o ≡ false → (not (is_lt (ordering_reverse o)) && not (is_lt o) ≡ true → is_lt r ≡ false) → is_lt (ordering_then o r) ≡ false
by_rank Less r h k = absurd cc
by_rank Equal r h k = k refl
by_rank Greater r h k = refl

none_less : {K R : Type 0} (x : StampValue) (es : List (Event K R)) → AllByRecursion (λ e. Below x e.stamp) es → AllByRecursion (λ e. stamp_less e.stamp x ≡ false) es
none_less x [] h = tt
none_less x (e ∷ es) h = (below_not_less x e.stamp h.0, none_less x es h.1)

-- what rises is in order
rising_order : {K R : Type 0} (es : List (Event K R)) → Increasing es → InOrder (λ d e. stamp_less d.stamp e.stamp) es
rising_order [] h = tt
rising_order (e ∷ es) h = (none_less e.stamp es h.0, rising_order es h.1)

home_rises : (hs : List HistoryValue) (i : ℕ) → All IsKept hs → Increasing (history_at (events_of hs) i)
home_rises [] i kept = tt
home_rises (h ∷ hs) zero kept = increases start h.events h.last (All-head IsKept h hs kept).rising
home_rises (h ∷ hs) (suc i) kept = home_rises hs i (All-tail IsKept h hs kept)

-- a stable sort by stamp of elements that stand for events
module _ {X : Type 0} (tag : X → Tag) (all by_stamp : List X) (up : IsSortedByKey (λ x. stamp_of (tag x)) stamp_cmp by_stamp) (stable : IsStableByKey (λ x. stamp_of (tag x)) stamp_cmp all by_stamp) where
  -- a part that was in order stays as it was
  part_unmoved : (p : Tag → Bool) → InOrder tag_less (filter p (map tag all)) → filter p (map tag by_stamp) ≡ filter p (map tag all)
  part_unmoved p order =
      sym (filter_under tag p by_stamp)
      ∙ ap (map tag) (part_stays (λ x y. tag_less (tag x) (tag y)) (ranks_by stamps_total (λ x. stamp_of (tag x))) (λ x. p (tag x)) all by_stamp (order_under tag tag_less (filter (λ x. p (tag x)) all) (rw (filter_under tag p all) order)) up stable)
      ∙ filter_under tag p all

  -- events of equal stamps stand by rank, where all stood by rank before
  sorted_order : InOrder rank_less (map tag all) → InOrder is_before (map tag by_stamp)
  sorted_order ranked =
      order_over tag is_before by_stamp
      (order_from (λ x y. is_before (tag x) (tag y)) (ranks_by tags_total tag) by_stamp
      (λ k d low high.
      let x = slice_index_or by_stamp k d in
      let y = slice_index_or by_stamp (k + 1) d in
      by_rank (stamp_cmp (stamp_of (tag y)) (stamp_of (tag x))) (nat_cmp (rank_of (tag y)) (rank_of (tag x))) (up k d low high)
      (λ tie. ties_stay_sorted (λ x y. rank_less (tag x) (tag y)) (λ x y. tag_less (tag x) (tag y)) (ranks_by nat_cmp_total (λ x. rank_of (tag x))) (ranks_by stamps_total (λ x. stamp_of (tag x))) all by_stamp (sorted_from (λ x y. rank_less (tag x) (tag y)) all (order_under tag rank_less all ranked)) stable k d high
      (subst (λ (v : Ordering). not (is_lt v) && not (is_lt (stamp_cmp (stamp_of (tag y)) (stamp_of (tag x)))) ≡ true) (sym (stamps_total.antisymm (stamp_of (tag x)) (stamp_of (tag y)))) tie))))

  -- a stable sort of what stands part by part
  module _ (per_queue : ℕ) (directory : DirectoryHistory) (ledger : LedgerHistory) (homes : List HistoryValue) (numbered : IsNumbered per_queue homes) (paired : IsPaired ledger.events (histories_of homes))
      (its_own : IsDirectoryKept directory) (moved : IsLedgerKept ledger) (kept : All IsKept homes) (is : map tag all ≡ by_part directory.events ledger.events (events_of homes)) where
    abbrev parts : List Tag
    parts = by_part directory.events ledger.events (events_of homes)

    abbrev run : List Tag
    run = map tag by_stamp

    directory_rises : Increasing directory.events
    directory_rises = increases start directory.events directory.last its_own.rising

    ledger_rises : Increasing ledger.events
    ledger_rises = increases start ledger.events ledger.last moved.rising

    own_rises : Increasing (own_events ledger.events)
    own_rises = increases_still (λ e. is_own e.call) ledger.events ledger_rises

    of_the_directory : of_directory run ≡ directory.events
    of_the_directory =
        let order : InOrder tag_less (filter is_directory (map tag all)) =
        rw (is, directory_part parts, directory_of_all directory.events ledger.events (events_of homes)) (order_over OfDirectory tag_less directory.events (rising_order directory.events directory_rises)) in
        sym (directory_alone run) ∙ ap of_directory (part_unmoved is_directory order) ∙ directory_alone (map tag all) ∙ ap of_directory is ∙ directory_of_all directory.events ledger.events (events_of homes)

    of_the_own : of_own run ≡ own_events ledger.events
    of_the_own =
        let order : InOrder tag_less (filter is_ledger (map tag all)) =
        rw (is, own_part parts, own_of_all directory.events ledger.events (events_of homes)) (order_over OfLedger tag_less (own_events ledger.events) (rising_order (own_events ledger.events) own_rises)) in
        sym (own_alone run) ∙ ap of_own (part_unmoved is_ledger order) ∙ own_alone (map tag all) ∙ ap of_own is ∙ own_of_all directory.events ledger.events (events_of homes)

    of_each_home : (i : ℕ) → of_home i run ≡ history_at (events_of homes) i
    of_each_home i =
        let order : InOrder tag_less (filter (is_home i) (map tag all)) =
        rw (is, home_part i parts, home_of_all directory.events ledger.events (events_of homes) i) (order_over (λ e. OfHome i e) tag_less (history_at (events_of homes) i) (rising_order (history_at (events_of homes) i) (home_rises homes i kept))) in
        sym (home_alone i run) ∙ ap (of_home i) (part_unmoved (is_home i) order) ∙ home_alone i (map tag all) ∙ ap (of_home i) is ∙ home_of_all directory.events ledger.events (events_of homes) i

    in_order : InOrder is_before run
    in_order = sorted_order (rw is (all_ranked directory.events ledger.events (events_of homes)))

    -- it merges
    pub sorted_merges : IsMerged directory.events ledger.events (events_of homes) run
    sorted_merges = record {
      of_the_directory = of_the_directory;
      of_the_ledger = ledger_is per_queue homes numbered kept ledger.events ledger_rises paired run of_each_home of_the_own in_order (rw of_the_directory directory_rises) (rw of_the_own own_rises) (λ i. rw (of_each_home i) (home_rises homes i kept));
      ledger_is_alone = ledger_alone per_queue homes numbered kept ledger.events ledger_rises paired run of_each_home of_the_own;
      of_each_home = of_each_home;
      in_order = in_order;
    }

    -- and the events of each part stand in their order
    pub sorted_rises : PartsRise run
    sorted_rises = run_parts_rise per_queue homes numbered kept ledger.events ledger_rises paired run of_each_home of_the_own in_order (rw of_the_directory directory_rises) (rw of_the_own own_rises) (λ i. rw (of_each_home i) (home_rises homes i kept))

own_from : (home : HomeId) (es : List HomeEvent) → All (λ e. e.component ≡ part.Home home) es → AreOfHome home es
own_from home [] all = tt
own_from home (e ∷ es) all = (All-head (λ (e : HomeEvent). e.component ≡ part.Home home) e es all, own_from home es (All-tail (λ (e : HomeEvent). e.component ≡ part.Home home) e es all))

home_goes : (hs : List HistoryValue) (i : ℕ) → All IsKept hs
    → HomeGoes (slice_get (map (λ site. record { site = site; home = Unopened }) (map (λ h. h.site) hs)) i) (history_at (events_of hs) i) (slice_get (map (λ h. record { site = h.site; home = h.home }) hs) i)
home_goes [] i kept = refl
home_goes (h ∷ hs) zero kept = let first = All-head IsKept h hs kept in (refl, own_from h.site.home h.events first.own, first.replays)
home_goes (h ∷ hs) (suc i) kept = home_goes hs i (All-tail IsKept h hs kept)

-- what is merged is a run to what the parts are now
pub merged_is_run : (directory : DirectoryHistory) (ledger : LedgerHistory) (homes : List HistoryValue) (run : List Tag) → IsDirectoryKept directory → IsLedgerKept ledger → All IsKept homes → IsMerged directory.events ledger.events (events_of homes) run
    → IsRun (opening_now directory ledger homes) run (system_now directory ledger homes)
merged_is_run directory ledger homes run own moved kept merged =
    merged_run (opening_now directory ledger homes) directory.events ledger.events (events_of homes) run (system_now directory ledger homes) merged (λ i. home_goes homes i kept) own.own own.replays moved.own moved.replays
