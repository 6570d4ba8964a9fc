use Rattle.std.proofs.Common.{◌/◌, ◌<◌, ◌≤◌, ◌∷◌, [], subst, length}
use Rattle.std.specs.List.{All, filter}
use Rattle.words_layout.specs.Words.{NextSerial}
use Rattle.loader.specs.Records.{is_kept}
use Rattle.loader.specs.Stores.{IsStorable, store_in, serial_under, pages_from}
use Rattle.loader.proofs.StoredWords.{serial_fits, there}
use Rattle.loader.proofs.StoreSteps.{one_stored, after_one, same_layout}
use Rattle.loader.proofs.storing.store_class.Goals as goal

pub store-requires : goal.store-requires
store-requires c =
    there (length c.args.words.now / 34869) (store_in c.args.class NextSerial (serial_under c.args.class c.args.records.now)) c.serial_addr.result.0 (serial_fits (length c.args.words.now / 34869) c.args.class c.requires.class (serial_under c.args.class c.args.records.now)) c.serial_addr.ensures

pub store_pages-requires-clause-few : goal.store_pages-requires-clause-few
store_pages-requires-clause-few c =
    subst (λ n. n ≤ 16) (same_layout c.args.words.now c.store.new.words (store_in c.args.class NextSerial (serial_under c.args.class c.args.records.now) ∷ [])
    (one_stored c.args.words.now c.store.new.words (store_in c.args.class NextSerial (serial_under c.args.class c.args.records.now)) c.serial_addr.result.0 c.next_serial.result c.store.ensures c.serial_addr.ensures c.next_serial.ensures)) c.requires.few

pub store_pages-requires-clause-class : goal.store_pages-requires-clause-class
store_pages-requires-clause-class c =
    subst (λ n. c.args.class < n) (same_layout c.args.words.now c.store.new.words (store_in c.args.class NextSerial (serial_under c.args.class c.args.records.now) ∷ [])
    (one_stored c.args.words.now c.store.new.words (store_in c.args.class NextSerial (serial_under c.args.class c.args.records.now)) c.serial_addr.result.0 c.next_serial.result c.store.ensures c.serial_addr.ensures c.next_serial.ensures)) c.requires.class

pub store_pages-requires-clause-records : goal.store_pages-requires-clause-records
store_pages-requires-clause-records c =
    subst (λ n. All (IsStorable n) c.args.records.now) (same_layout c.args.words.now c.store.new.words (store_in c.args.class NextSerial (serial_under c.args.class c.args.records.now) ∷ [])
    (one_stored c.args.words.now c.store.new.words (store_in c.args.class NextSerial (serial_under c.args.class c.args.records.now)) c.serial_addr.result.0 c.next_serial.result c.store.ensures c.serial_addr.ensures c.next_serial.ensures)) c.requires.records

pub returns : goal.returns
returns c =
    after_one c.args.words.now c.store.new.words c.store_pages.new.words (store_in c.args.class NextSerial (serial_under c.args.class c.args.records.now)) (pages_from c.args.class 0 (filter (is_kept c.args.class) c.args.records.now))
    (one_stored c.args.words.now c.store.new.words (store_in c.args.class NextSerial (serial_under c.args.class c.args.records.now)) c.serial_addr.result.0 c.next_serial.result c.store.ensures c.serial_addr.ensures c.next_serial.ensures)
    c.store_pages.ensures
