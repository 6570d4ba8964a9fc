use Rattle.std.proofs.Common.{◌/◌, ◌+◌, ap, sym, subst, ◌∙◌, length}
use Rattle.words_layout.specs.Segments.{seg_number}
use Rattle.words_layout.specs.Words.{PageTenant}
use Rattle.class_model.specs.Config.{SegRecord}
use Rattle.loader.specs.Stores.{IsStorable, store_in}
use Rattle.loader.proofs.StoredWords.{tenant_fits, there}
use Rattle.loader.proofs.StoreSteps.{one_stored}
use Rattle.loader.proofs.storing.store_tenant.Goals as goal

pub seg_number-number-requires : goal.seg_number-number-requires
seg_number-number-requires c =
    let r = subst (IsStorable (length c.args.words.now / 34869)) (sym c.segment.view_is) c.requires.record in r.seg

pub store-requires : goal.store-requires
store-requires c =
    there (length c.args.words.now / 34869) (store_in c.args.class (PageTenant c.args.page) 0) c.page_tenant_addr-addr.result.0
    (tenant_fits (length c.args.words.now / 34869) c.args.class c.requires.class c.args.page 0 c.requires.page) c.page_tenant_addr-addr.ensures

pub returns : goal.returns
returns c =
    one_stored c.args.words.now c.store.new.words (store_in c.args.class (PageTenant c.args.page) (seg_number c.args.segment.now.seg + 1)) c.page_tenant_addr-addr.result.0 (c.seg_number-number.result + 1) c.store.ensures c.page_tenant_addr-addr.ensures
    (ap (λ n. n + 1) (c.seg_number-number.ensures.value ∙ ap (λ (r : SegRecord). seg_number r.seg) c.segment.view_is))
